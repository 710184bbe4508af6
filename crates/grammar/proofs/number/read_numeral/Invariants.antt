use Rattle.std.proofs.Common.{◌≡◌, ◌+◌, min, take, drop}
use Rattle.std.specs.Str.Parse.{digits_value}
use Rattle.std.specs.Str.{all_ascii_digits}
use Rattle.grammar.proofs.number.read_numeral.Given as goal

abbrev pub invariant-loop-b : goal.invariant-loop-b
invariant-loop-b l = (l.n ≡ min (digits_value 10 (take l.b-index l.word)) (l.limit + 1)) × (all_ascii_digits (drop l.b-index l.word) ≡ all_ascii_digits l.word)
