-- Sets of seats.
use Rattle.std.specs.Prelude.{ℕ, zero, suc, ◌+◌, ◌-◌, ◌/◌, ◌%◌, ◌^◌, Bool, cond, ◌&&◌, ◌==◌, nat_le}
use Rattle.panel.specs.declared.seats.Seats.{Seats}

-- seats are numbered 1 to 64
abbrev pub is_seat : ℕ → Bool
is_seat k = nat_le 1 k && nat_le k 64

-- whether seat k is in the set: bit k - 1 stands for it
unfoldable pub has_seat : Seats → ℕ → Bool
has_seat s k = is_seat k && s.bits / 2 ^ (k - 1) % 2 == 1

-- how many of the numbers 1 to n pass a test
unfoldable pub tally : (ℕ → Bool) → ℕ → ℕ
tally p zero = 0
tally p (suc n) = tally p n + cond (p (suc n)) 1 0
