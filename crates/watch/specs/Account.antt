-- What a watch is, in three parts, and what each of its calls does to them.
use Rattle.std.specs.Prelude.{◌≡◌, ℕ, List, Option, Result}
use Rattle.stream.specs.declared.refusal.Refusal.{Refusal}
use Rattle.stream.specs.Words.{State, state_of, unread, Began, feeding}
use Rattle.panel.specs.Panels.{Meaning, SamePanel, PanelAfter}
use Rattle.watch.specs.declared.notice.Notice.{Notice}
use Rattle.watch.specs.declared.watch.Watch.{Watch}
use Rattle.watch.specs.Ledgers.{BySeat, by_seat}
use Rattle.watch.specs.Losses.{bare}
use Rattle.watch.specs.Listing.{Listing}
use Rattle.watch.specs.Seats.{SameSeats, first_seats, SeatsAfter, TookFirst}

-- a watch apart from how it is held: how far it read, what its panel means, and what it keeps of each seat
pub record Account : Type 0 where
  pub feed : State
  pub panel : Meaning
  pub ledger : BySeat

abbrev pub account : {P : Type 0} → (P → Meaning) → Watch P → Account
account meaning w = record { feed = state_of w.feed; panel = meaning w.panel; ledger = by_seat w.ledger }

-- a watch was made on a panel that means m
pub record Made (m : Meaning) (a : Account) : Type 0 where
  pub feed : a.feed ≡ unread
  pub panel : SamePanel m a.panel
  pub ledger : SameSeats (first_seats m) a.ledger

-- begin was called with the number n
pub record Opened (a : Account) (n : ℕ) (b : Account) (r : Result (Unit {0}) Refusal) : Type 0 where
  pub began : Began a.feed n r b.feed
  pub panel : SamePanel a.panel b.panel
  pub ledger : SameSeats a.ledger b.ledger

-- words were delivered: n of them were taken, up to the refusal r if there is one, and the panel judged each sample once
pub record Delivered (a : Account) (ws : List ℕ) (b : Account) (n : ℕ) (r : Option Refusal) : Type 0 where
  pub words : n ≡ (feeding a.feed ws).count
  pub refused : r ≡ (feeding a.feed ws).refused
  pub feed : b.feed ≡ (feeding a.feed ws).state
  pub panel : PanelAfter a.panel (bare (feeding a.feed ws).samples) b.panel
  pub ledger : SeatsAfter a.panel (feeding a.feed ws).samples a.ledger b.ledger

-- list was called with a list that held `before` and then holds `after`
abbrev pub Listed : Account → List Notice → List Notice → ℕ → ℕ → Type 0
Listed a before after written waiting = Listing a.ledger.number a.ledger.collected before after written waiting

-- collect was called
pub record Collected (a b : Account) (r : Result Notice Refusal) : Type 0 where
  pub feed : b.feed ≡ a.feed
  pub panel : SamePanel a.panel b.panel
  pub ledger : TookFirst a.ledger b.ledger r

-- two watches equal in state, over panels of equal meaning
pub record Alike (a b : Account) : Type 0 where
  pub feed : b.feed ≡ a.feed
  pub panel : SamePanel a.panel b.panel
  pub ledger : SameSeats a.ledger b.ledger
