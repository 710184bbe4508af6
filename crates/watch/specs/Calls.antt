-- Calls of a watch, and what settles the samples that they take.
use Rattle.std.specs.Prelude.{ℕ, List, []}
use Rattle.stream.specs.declared.numbered.Numbered.{Numbered}
use Rattle.stream.specs.Words.{State, state_by, begin_refusal, numbered_from, feeding}
use Rattle.watch.specs.declared.notice.Notice.{Notice}

-- a call with its arguments; of `list` that is the list that it was lent, as it stood before
pub data Call : Type 0 where
  begin : (n : ℕ) → Call
  deliver : (ws : List ℕ) → Call
  list : (before : List Notice) → Call
  collect : Call

-- how far a stream is read, and the samples that were taken on the way
pub record ReadTo : Type 0 where
  pub state : State
  pub samples : List Numbered

-- what a call makes of a stream that is read so far: the call's arguments settle it
abbrev pub reading : State → Call → ReadTo
reading s (begin n) = record { state = state_by (begin_refusal s n) s (numbered_from s n); samples = [] }
reading s (deliver ws) = record { state = (feeding s ws).state; samples = (feeding s ws).samples }
reading s (list before) = record { state = s; samples = [] }
reading s collect = record { state = s; samples = [] }
