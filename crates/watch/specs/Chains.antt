-- Calls made one after another, by what each of them promises.
use Rattle.std.specs.Prelude.{◌≡◌, ℕ, ◌≤◌, List, [], ◌∷◌, ◌++◌, Option, Result}
use Rattle.stream.specs.declared.refusal.Refusal.{Refusal}
use Rattle.panel.specs.Panels.{Meaning, Lawful}
use Rattle.watch.specs.declared.notice.Notice.{Notice}
use Rattle.watch.specs.Account.{Account, Made, Opened, Delivered, Listed, Collected}
use Rattle.watch.specs.Calls.{Call}
use Rattle.watch.specs.Calls as call
use Rattle.watch.specs.Answers.{Answer}
use Rattle.watch.specs.Answers as answer
use Rattle.watch.specs.Exchanges.{Exchange}
use Rattle.watch.specs.Story.{Story}
use Rattle.watch.specs.Notices.{OneList}

-- one call was made of a watch a, which is then b, and was answered so: a rule for each call, with the relation that the call promises
pub data Step (a b : Account) : Call → Answer → Type 0 where
  begin : (n : ℕ) (r : Result (Unit {0}) Refusal) → Opened a n b r → Step a b (call.begin n) (answer.done r)
  deliver : (ws : List ℕ) (n : ℕ) (r : Option Refusal) → Delivered a ws b n r → Step a b (call.deliver ws) (answer.took n r)
  list : (before after : List Notice) (written waiting : ℕ) → b ≡ a → Listed a before after written waiting → waiting ≤ 64
      → Step a b (call.list before) (answer.listed after written waiting)
  collect : (r : Result Notice Refusal) → Collected a b r → Step a b call.collect (answer.collected r)

pub data Chain (a : Account) : List Exchange → Account → Type 0 where
  none : Chain a [] a
  link : {es : List Exchange} {b : Account} (e : Exchange) (d : Account) → Chain a es b → Step b d e.call e.answer → Chain a (es ++ e ∷ []) d

-- every chain of calls from a making on is a story, and there is only one list of its notices
pub record ChainsTell : Type 0 where
  pub tell : (m : Meaning) → Lawful m → (a b : Account) (es : List Exchange) → Made m a → Chain a es b → Story m es b
  pub one_list : OneList
