-- What holds of every story: a watch that was made on a panel, and then called as often and in whatever order.
use Rattle.std.specs.Prelude.{◌≡◌, ℕ, ◌≤◌, Bool, false, List, [], ◌∷◌, ◌++◌, Some, None, Ok, Err, Decides, Option, Result}
use Rattle.stream.specs.declared.refusal.Refusal.{Refusal}
use Rattle.stream.specs.declared.refusal.Refusal.TheVariants.{NothingWaits}
use Rattle.stream.specs.declared.sample.Sample.{Sample}
use Rattle.stream.specs.Words.{begin_refusal, done_by, feeding}
use Rattle.panel.specs.Panels.{Meaning, PanelAfter}
use Rattle.watch.specs.declared.notice.Notice.{Notice}
use Rattle.watch.specs.Losses.{bare}
use Rattle.watch.specs.Falls.{Falls}
use Rattle.watch.specs.Order.{In, Waits}
use Rattle.watch.specs.Listing.{Shows}
use Rattle.watch.specs.Notices.{Notices}
use Rattle.watch.specs.Account.{Account}
use Rattle.watch.specs.Calls.{Call}
use Rattle.watch.specs.Calls as call
use Rattle.watch.specs.Answers.{Answer}
use Rattle.watch.specs.Answers as answer
use Rattle.watch.specs.Exchanges.{Exchange, read_after, taken, collected_in}

-- collect answers the first of those that wait, and 10 exactly when none is left
abbrev pub Gets : List Notice → Result Notice Refusal → Type 0
Gets ns (Ok n) = (rest : List Notice) × (ns ≡ n ∷ rest)
Gets ns (Err e) = (e ≡ NothingWaits) × (ns ≡ [])

-- ns wait after the calls es: with those collected they are the notices of the lost seats
abbrev pub Left : (List Sample → ℕ → Bool) → List Exchange → List Notice → Type 0
Left F es ns = Notices F (taken es) (collected_in es ++ ns)

-- the right answer to a call of a watch on a panel that meant m, after the calls es: a rule for each call, and no other answer is right
pub data Right (m : Meaning) (es : List Exchange) : Call → Answer → Type 0 where
  begin : (n : ℕ) (r : Result (Unit {0}) Refusal) → r ≡ done_by (begin_refusal (read_after es) n) → Right m es (call.begin n) (answer.done r)
  deliver : (ws : List ℕ) (n : ℕ) (r : Option Refusal) → n ≡ (feeding (read_after es) ws).count → r ≡ (feeding (read_after es) ws).refused
      → Right m es (call.deliver ws) (answer.took n r)
  list : (before after : List Notice) (written waiting : ℕ) (ns : List Notice) → Left m.lost es ns → Shows ns before after written waiting
      → waiting ≤ 64 → Right m es (call.list before) (answer.listed after written waiting)
  collect : (r : Result Notice Refusal) (ns : List Notice) → Left m.lost es ns → Gets ns r → Right m es call.collect (answer.collected r)

-- every call was answered right
pub data Told (m : Meaning) : List Exchange → Type 0 where
  start : Told m []
  more : {es : List Exchange} (e : Exchange) → Told m es → Right m es e.call e.answer → Told m (es ++ e ∷ [])

-- the watch b, made on a panel that means m, after the calls es
pub record Story (m : Meaning) (es : List Exchange) (b : Account) : Type 0 where
  -- which words and samples are taken, and their numbers, is settled by the calls' arguments alone
  pub feed : b.feed ≡ read_after es
  pub panel : PanelAfter m (bare (taken es)) b.panel
  -- a seat is lost exactly when the meaning at the making fails it on the samples taken, and its number is that of the last sample in
  -- the shortest failing opening, or 0 if that is empty
  pub lost : (k n : ℕ) → b.ledger.number k ≡ Some n → Falls m.lost (taken es) k n
  pub falls : (k n : ℕ) → Falls m.lost (taken es) k n → b.ledger.number k ≡ Some n
  pub stands : (k : ℕ) → b.ledger.number k ≡ None → m.lost (bare (taken es)) k ≡ false
  pub safe : (k : ℕ) → m.lost (bare (taken es)) k ≡ false → b.ledger.number k ≡ None
  -- the notices collected, then those waiting, are the notices of the lost seats
  pub collected : (k : ℕ) → Decides (b.ledger.collected k) ((n : ℕ) × In (record { seat = k; number = n }) (collected_in es))
  pub waiting : List Notice
  pub waits : Waits b.ledger.number b.ledger.collected waiting
  pub notices : Left m.lost es waiting
  pub told : Told m es
