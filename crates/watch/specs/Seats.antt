-- What is kept of each seat, and what becomes of it.
use Rattle.std.specs.Prelude.{◌≡◌, ℕ, false, cond, ◌||◌, List, [], ◌∷◌, Some, None, Ok, Err, Result, ◌==◌}
use Rattle.stream.specs.declared.refusal.Refusal.{Refusal}
use Rattle.stream.specs.declared.refusal.Refusal.TheVariants.{NothingWaits}
use Rattle.stream.specs.declared.numbered.Numbered.{Numbered}
use Rattle.panel.specs.Panels.{Meaning}
use Rattle.watch.specs.declared.notice.Notice.{Notice}
use Rattle.watch.specs.Ledgers.{BySeat}
use Rattle.watch.specs.Losses.{number_by}
use Rattle.watch.specs.Order.{Waits}

-- of each seat the same is kept
pub record SameSeats (s t : BySeat) : Type 0 where
  pub number : (k : ℕ) → t.number k ≡ s.number k
  pub collected : (k : ℕ) → t.collected k ≡ s.collected k

-- at a making on a panel that means m: a seat that is lost already has number 0, and nothing was collected
abbrev pub first_seats : Meaning → BySeat
first_seats m = record { number = λ k. cond (m.lost [] k) (Some 0) None; collected = λ k. false }

-- once a panel that means m judged these samples: a seat that they lose has the number of the sample that lost it
abbrev pub seats_after : Meaning → List Numbered → BySeat → BySeat
seats_after m xs s = record s { number = λ k. number_by m.lost k (s.number k) xs }

abbrev pub SeatsAfter : Meaning → List Numbered → BySeat → BySeat → Type 0
SeatsAfter m xs s t = SameSeats (seats_after m xs s) t

-- once the notice of a seat was collected
abbrev pub with_collected : ℕ → BySeat → BySeat
with_collected seat s = record s { collected = λ k. s.collected k || seat == k }

-- the first notice that waits was taken away, or none waited
abbrev pub TookFirst : BySeat → BySeat → Result Notice Refusal → Type 0
TookFirst s t (Ok n) = (rest : List Notice) × Waits s.number s.collected (n ∷ rest) × SameSeats (with_collected n.seat s) t
TookFirst s t (Err e) = (e ≡ NothingWaits) × Waits s.number s.collected [] × SameSeats s t
