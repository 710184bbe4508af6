-- What one word comes to.
use Rattle.std.specs.Prelude.{ℕ, Some, None, Ok, Err, Option, Result}
use Rattle.stream.specs.declared.refusal.Refusal.{Refusal}

-- how many words were taken, of one
abbrev pub count_in : Result (Unit {0}) Refusal → ℕ
count_in (Ok done) = 1
count_in (Err r) = 0

-- the refusal, if there is one
abbrev pub refusal_in : Result (Unit {0}) Refusal → Option Refusal
refusal_in (Ok done) = None
refusal_in (Err r) = Some r
