use Rattle.std.proofs.Common.{◌≤◌, take}
use Rattle.rows.proofs.Letters.{Reads, GoesFrom}
use Rattle.rows.proofs.reading.letters_of.Given as goal

abbrev pub invariant-loop-column : goal.invariant-loop-column
invariant-loop-column l = record {
  from : 97 ≤ l.first;
  upto : l.first ≤ 121;
  reads : Reads (take l.column l.text) l.letters l.first;
  goes : GoesFrom (take l.column l.text) l.first;
}
