-- Calls with their answers, one after another.
use Rattle.std.specs.Prelude.{List, [], ◌∷◌, ◌++◌, map}
use Rattle.stream.specs.declared.numbered.Numbered.{Numbered}
use Rattle.stream.specs.Words.{State, unread}
use Rattle.watch.specs.declared.notice.Notice.{Notice}
use Rattle.watch.specs.Calls.{Call, ReadTo, reading}
use Rattle.watch.specs.Answers.{Answer, gotten}

-- a call as it was made, with its answer
pub record Exchange : Type 0 where
  pub call : Call
  pub answer : Answer

abbrev pub calls_of : List Exchange → List Call
calls_of es = map (λ e. e.call) es

abbrev pub answers_of : List Exchange → List Answer
answers_of es = map (λ e. e.answer) es

-- what calls make of a stream, one after another: their answers have no say in it
abbrev pub readings : State → List Call → ReadTo
readings s [] = record { state = s; samples = [] }
readings s (c ∷ cs) = record
    { state = (readings (reading s c).state cs).state; samples = (reading s c).samples ++ (readings (reading s c).state cs).samples }

-- from the making on
abbrev pub read_after : List Exchange → State
read_after es = (readings unread (calls_of es)).state

abbrev pub taken : List Exchange → List Numbered
taken es = (readings unread (calls_of es)).samples

-- the notices that were collected, in their order
abbrev pub collected_in : List Exchange → List Notice
collected_in [] = []
collected_in (e ∷ es) = gotten e.answer ++ collected_in es
