-- What a watch answers to its calls.
use Rattle.std.specs.Prelude.{ℕ, List, [], ◌∷◌, Ok, Err, Option, Result}
use Rattle.stream.specs.declared.refusal.Refusal.{Refusal}
use Rattle.watch.specs.declared.notice.Notice.{Notice}

-- an answer by its form, whichever call it is to: whether it was done; how many words were taken, and the refusal; the list that was lent,
-- as it stands after, how many notices were written, and how many wait; or the notice that was collected
pub data Answer : Type 0 where
  done : (r : Result (Unit {0}) Refusal) → Answer
  took : (n : ℕ) (r : Option Refusal) → Answer
  listed : (after : List Notice) (written waiting : ℕ) → Answer
  collected : (r : Result Notice Refusal) → Answer

-- the notice in an answer, if there is one
abbrev pub notice_in : Result Notice Refusal → List Notice
notice_in (Ok n) = n ∷ []
notice_in (Err e) = []

-- what was collected by a call that was answered so
abbrev pub gotten : Answer → List Notice
gotten (done r) = []
gotten (took n r) = []
gotten (listed after written waiting) = []
gotten (collected r) = notice_in r
