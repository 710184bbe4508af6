-- Stories that a program plays: its calls and answers as they are held, and the exchanges that they stand for.
use Rattle.std.specs.Prelude.{◌≡◌, ℕ, ◌≤◌, List, map}
use Rattle.panel.specs.Panels.{Meaning}
use Rattle.watch.specs.declared.notice.Notice.{Notice}
use Rattle.watch.specs.declared.story.PlayCall.{PlayCall}
use Rattle.watch.specs.declared.story.PlayCall.TheVariants as held_call
use Rattle.watch.specs.declared.story.PlayAnswer.{PlayAnswer}
use Rattle.watch.specs.declared.story.PlayAnswer.TheVariants as held_answer
use Rattle.watch.specs.Account.{Account, Made, Listed}
use Rattle.watch.specs.Calls.{Call}
use Rattle.watch.specs.Calls as call
use Rattle.watch.specs.Answers.{Answer}
use Rattle.watch.specs.Answers as answer
use Rattle.watch.specs.Exchanges.{Exchange, calls_of, answers_of}
use Rattle.watch.specs.Story.{Story}
use Rattle.watch.specs.Chains.{Step, Chain}
use Rattle.watch.specs.Blanks.{blanks, padded}

-- what a call asks of the watch
abbrev pub call_of : PlayCall → Call
call_of (held_call.Begin n) = call.begin n
call_of (held_call.Deliver p) = call.deliver p.now
call_of (held_call.List room) = call.list (blanks room)
call_of held_call.Collect = call.collect

-- how an answer of the watch is held
abbrev pub held_as : Answer → PlayAnswer
held_as (answer.done r) = held_answer.Done r
held_as (answer.took n r) = held_answer.Taken n r
held_as (answer.listed after written waiting) = held_answer.Listed (padded after) written waiting
held_as (answer.collected r) = held_answer.Collected r

-- list was called of a watch with a list of so many blanks
abbrev pub Looked : Account → ℕ → List Notice → ℕ → ℕ → Type 0
Looked a room out written waiting = (after : List Notice) × (out ≡ padded after) × Listed a (blanks room) after written waiting × (waiting ≤ 64)

-- the call was made of a watch a, which is then b, and answered so
abbrev pub PlayAnswered : Account → PlayCall → Account → PlayAnswer → Type 0
PlayAnswered a c b r = (x : Answer) × (r ≡ held_as x) × Step a b (call_of c) x

-- a story was played: the calls were made of a watch that was made on a panel that means m; the watch is then b, and answered so
pub record Played (m : Meaning) (calls : List PlayCall) (given : List PlayAnswer) (b : Account) : Type 0 where
  pub start : Account
  pub exchanges : List Exchange
  pub calls_are : calls_of exchanges ≡ map call_of calls
  pub answers_are : given ≡ map held_as (answers_of exchanges)
  pub made : Made m start
  pub chain : Chain start exchanges b
  pub story : Story m exchanges b
