-- The clock of a rule: how it runs and what is asked of it.
use Rattle.std.specs.Prelude.{ℕ, ◌+◌, min, Bool, false, Some, None, Option, nat_le, nat_lt}

-- while it runs, the ticks since the sample that the rule counts from
abbrev pub Clock : Type 0
Clock = Option ℕ

-- the highest reading: a clock stops there and does not wrap
abbrev pub highest : ℕ
highest = 4294967295

abbrev pub advanced : Clock → ℕ → Clock
advanced None gap = None
advanced (Some c) gap = Some (min (c + gap) highest)

abbrev pub begun : Clock → Clock
begun None = Some 0
begun (Some c) = Some c

abbrev pub reached : Clock → ℕ → Bool
reached None t = false
reached (Some c) t = nat_le t c

abbrev pub passed : Clock → ℕ → Bool
passed None t = false
passed (Some c) t = nat_lt t c

abbrev pub short_of : Clock → ℕ → Bool
short_of None t = false
short_of (Some c) t = nat_lt c t
