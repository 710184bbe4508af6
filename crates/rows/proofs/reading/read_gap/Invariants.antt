use Rattle.std.proofs.Common.{◌≡◌, ℕ, ◌^◌, ◌<◌, ◌≤◌, length, get_or, take}
use Rattle.std.specs.Str.Parse.{digits_value}
use Rattle.std.specs.Int.{IsInRange}
use Rattle.rows.proofs.reading.read_gap.Given as goal

abbrev pub invariant-loop-column : goal.invariant-loop-column
invariant-loop-column l = record {
  first : get_or l.word 0 0 ≡ 48 → length l.word ≤ 1;
  is : l.gap ≡ digits_value 10 (take l.column l.word);
  digits : (k : ℕ) → k < l.column → IsInRange 48 57 (get_or l.word k 0);
  small : l.gap < 2 ^ 32;
}
