-- One list of calls has one list of answers.
use Rattle.std.specs.Prelude.{◌≡◌, List, length, map, take, replicate}
use Rattle.panel.specs.Panels.{Meaning, SamePanel}
use Rattle.watch.specs.Account.{Account, Made, Alike}
use Rattle.watch.specs.Blanks.{blank}
use Rattle.watch.specs.Calls.{Call}
use Rattle.watch.specs.Calls as call
use Rattle.watch.specs.Answers.{Answer}
use Rattle.watch.specs.Answers as answer
use Rattle.watch.specs.Exchanges.{Exchange, calls_of, answers_of}
use Rattle.watch.specs.Story.{Told}
use Rattle.watch.specs.Chains.{Chain}

-- a call whatever stands in the list that it is lent, so that only the list's length counts
abbrev pub asked_by : Call → Call
asked_by (call.begin n) = call.begin n
asked_by (call.deliver ws) = call.deliver ws
asked_by (call.list before) = call.list (replicate (length before) blank)
asked_by call.collect = call.collect

abbrev pub asked_in : List Exchange → List Call
asked_in es = map (λ e. asked_by e.call) es

-- an answer whatever stands in the list behind the notices that were written
abbrev pub shown_by : Answer → Answer
shown_by (answer.done r) = answer.done r
shown_by (answer.took n r) = answer.took n r
shown_by (answer.listed after written waiting) = answer.listed (take written after) written waiting
shown_by (answer.collected r) = answer.collected r

abbrev pub shown_in : List Exchange → List Answer
shown_in es = map (λ e. shown_by e.answer) es

pub record AnswersTell : Type 0 where
  -- there is one list of right answers
  pub right : (m : Meaning) (es fs : List Exchange) → Told m es → Told m fs → calls_of es ≡ calls_of fs → answers_of es ≡ answers_of fs
  -- watches that were made on panels that mean the same answer the same calls with the same, and are alike then
  pub same : (m n : Meaning) → SamePanel m n → (a b c d : Account) (es fs : List Exchange) → Made m a → Chain a es b → Made n c → Chain c fs d
      → calls_of es ≡ calls_of fs → (answers_of es ≡ answers_of fs) × Alike b d
  -- and where other things stand in the lists that they are lent, which are equally long, they write the same notices
  pub rooms : (m n : Meaning) → SamePanel m n → (a b c d : Account) (es fs : List Exchange) → Made m a → Chain a es b → Made n c → Chain c fs d
      → asked_in es ≡ asked_in fs → (shown_in es ≡ shown_in fs) × Alike b d
