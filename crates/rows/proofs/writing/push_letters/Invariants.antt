use Rattle.std.proofs.Common.{◌≡◌, ◌+◌, ◌≤◌, ◌++◌, length}
use Rattle.rows.specs.Rows.{letters_in}
use Rattle.rows.proofs.Letters.{letters_after}
use Rattle.rows.proofs.writing.push_letters.Given as goal

abbrev pub invariant-loop-letter : goal.invariant-loop-letter
invariant-loop-letter l = record {
  room : length l.row.bytes + 97 ≤ 11 + l.letter;
  rest : l.row.bytes ++ letters_after l.letter l.letters ≡ l.initial.row.bytes ++ letters_in 24 97 l.letters;
}
