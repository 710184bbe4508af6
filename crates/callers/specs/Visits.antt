-- A visit to a watch: a story of three calls, one of which is lent a list of the caller's own.
use Rattle.std.specs.Prelude.{ℕ, List, [], ◌∷◌}
use Rattle.panel.specs.Panels.{Meaning}
use Rattle.watch.specs.declared.notice.Notice.{Notice}
use Rattle.watch.specs.Account.{Account, Made}
use Rattle.watch.specs.Calls as call
use Rattle.watch.specs.Answers as answer
use Rattle.watch.specs.Exchanges.{Exchange}
use Rattle.watch.specs.Story.{Story}
use Rattle.watch.specs.Chains.{Chain}
use Rattle.callers.specs.declared.visit.Visit.{Visit}

-- the words were delivered, notices were listed into a list that held `before` and then holds `after`, and one was collected
abbrev pub exchanges_of : List ℕ → List Notice → List Notice → Visit → List Exchange
exchanges_of ws before after v =
    record { call = call.deliver ws; answer = answer.took v.taken v.refused }
    ∷ record { call = call.list before; answer = answer.listed after v.written v.waiting }
    ∷ record { call = call.collect; answer = answer.collected v.first }
    ∷ []

-- a watch was made on a panel that means m; by the visit it became b, and that is a story
pub record Visited (m : Meaning) (ws : List ℕ) (before after : List Notice) (v : Visit) (b : Account) : Type 0 where
  pub start : Account
  pub made : Made m start
  pub chain : Chain start (exchanges_of ws before after v) b
  pub story : Story m (exchanges_of ws before after v) b
