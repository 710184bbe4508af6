-- What a ledger says of each seat.
use Rattle.std.specs.Prelude.{ℕ, ◌-◌, Bool, cond, not, ◌&&◌, Some, None, Option, slice_index}
use Rattle.panel.specs.Seating.{has_seat}
use Rattle.watch.specs.declared.notice.Notice.{Notice}
use Rattle.watch.specs.declared.ledger.Ledger.{Ledger}

-- the number at which seat k was lost, if it was
abbrev pub number_of : Ledger → ℕ → Option ℕ
number_of g k = cond (has_seat g.lost k) (Some (slice_index g.numbers (k - 1))) None

-- whether the notice of seat k was collected
abbrev pub collected_of : Ledger → ℕ → Bool
collected_of g k = has_seat g.collected k

-- the notice of seat k, if it waits
abbrev pub waiting_of : Ledger → ℕ → Option Notice
waiting_of g k =
    cond (has_seat g.lost k && not (has_seat g.collected k)) (Some (record { seat = k; number = slice_index g.numbers (k - 1) })) None

-- what is kept of each seat: its number, if it is lost, and whether its notice was collected
pub record BySeat : Type 0 where
  pub number : ℕ → Option ℕ
  pub collected : ℕ → Bool

abbrev pub by_seat : Ledger → BySeat
by_seat g = record { number = number_of g; collected = collected_of g }
