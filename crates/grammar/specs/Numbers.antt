-- How a word is read as a number.
use Rattle.std.specs.Prelude.{ℕ, min, max, Bool, cond, not, ◌&&◌, List, length, Some, None, Ok, Err, Option, Result, ◌==◌, nat_le, nat_lt, slice_index}
use Rattle.std.proofs.Math.Nat.{min-le_right, le-max_left, max-le}
use Rattle.std.proofs.Common.{lit≤}
use Rattle.std.specs.Str.Parse.{digits_value}
use Rattle.std.specs.Str.{all_ascii_digits}
use Rattle.monitor.specs.declared.limit.Ticks.{Ticks}
use Rattle.grammar.specs.declared.clause.ClauseNumber.{ClauseNumber}
use Rattle.grammar.specs.declared.number.Misread.{Misread}
use Rattle.grammar.specs.declared.number.Misread.TheVariants.{WrongForm, TooHigh}

-- digits, one at least, and no zero before another digit
abbrev pub well_formed : List ℕ → Bool
well_formed w = nat_lt 0 (length w) && (all_ascii_digits w && not (slice_index w 0 == 48 && nat_lt 1 (length w)))

-- what a word says as a number of at most `limit`
abbrev pub reading_of : ℕ → List ℕ → Result ℕ Misread
reading_of limit w = cond (well_formed w) (cond (nat_le (digits_value 10 w) limit) (Ok (digits_value 10 w)) (Err TooHigh)) (Err WrongForm)

-- the number from low to high that a word is
abbrev pub number_of : ℕ → ℕ → List ℕ → Option ℕ
number_of low high w = cond (well_formed w && (nat_le (digits_value 10 w) high && nat_le low (digits_value 10 w))) (Some (digits_value 10 w)) None

-- the limit of n ticks; where n is out of range, the end that is nearest
abbrev pub ticks_of : ℕ → Ticks
ticks_of n = record { value = min n 999999999; small = min-le_right n 999999999 }

-- the clause number n; where n is out of range, the end that is nearest
abbrev pub clause_of : ℕ → ClauseNumber
clause_of n = record {
  value = max 1 (min n 9999);
  from = le-max_left 1 (min n 9999);
  upto = max-le (lit≤ tt) (min-le_right n 9999);
}
