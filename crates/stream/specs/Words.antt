-- What the words of a stream say, and what a feed makes of them.
use Rattle.std.specs.Prelude.{◌≡◌, ℕ, suc, ◌+◌, ◌/◌, ◌%◌, ◌^◌, min, Bool, true, false, cond, ◌&&◌, ◌||◌, List, [], ◌∷◌, ◌++◌, Some, None, Ok, Err, Option, Result, ◌==◌, nat_lt}
use Rattle.std.proofs.Common.{mod-lt, lit<}
use Rattle.std.proofs.Math.Nat.{lt_of_le_of_lt, min-le_right}
use Rattle.std.specs.Option.{option_to_list}
use Rattle.stream.specs.declared.refusal.Refusal.{Refusal}
use Rattle.stream.specs.declared.refusal.Refusal.TheVariants.{StreamEnded, UnusedKind, GapTooLong, HighLetter, NumbersSpent, EndPayload, GapAtEnd, WordTaken, BadStart}
use Rattle.stream.specs.declared.sample.Sample.{Sample}
use Rattle.stream.specs.declared.numbered.Numbered.{Numbered}
use Rattle.stream.specs.declared.feed.Feed.{Feed}
use Rattle.stream.specs.declared.feed.Stage.{Stage}
use Rattle.stream.specs.declared.feed.Stage.TheVariants.{Unread, Begun, Ended}
use Rattle.stream.specs.Refusals.{when, first_of}

-- how far a stream was read
pub record State : Type 0 where
  pub next : ℕ
  pub pending : ℕ
  pub begun : Bool
  pub ended : Bool

-- whether a word was taken, and whether the stream ended
abbrev pub is_begun : Stage → Bool
is_begun Unread = false
is_begun Begun = true
is_begun Ended = true

abbrev pub is_ended : Stage → Bool
is_ended Unread = false
is_ended Begun = false
is_ended Ended = true

abbrev pub state_of : Feed → State
state_of f = record { next = f.next; pending = f.pending; begun = is_begun f.stage; ended = is_ended f.stage }

-- before any word
abbrev pub unread : State
unread = record { next = 1; pending = 0; begun = false; ended = false }

-- the last number that a sample can have
abbrev pub last_number : ℕ
last_number = 999999999999

abbrev pub longest_gap : ℕ
longest_gap = 4294967295

-- a word's two top bits, and the thirty below them
abbrev pub kind : ℕ → ℕ
kind w = w / 2 ^ 30

abbrev pub load : ℕ → ℕ
load w = w % 2 ^ 30

-- what a word is checked for, in this order
abbrev pub checks : State → ℕ → List (Option Refusal)
checks s w =
    when s.ended StreamEnded
    ∷ when (kind w == 2) UnusedKind
    ∷ when (kind w == 0 && nat_lt longest_gap (s.pending + load w)) GapTooLong
    ∷ when (kind w == 1 && nat_lt 0 (load w / 2 ^ 24)) HighLetter
    ∷ when (kind w == 1 && nat_lt last_number s.next) NumbersSpent
    ∷ when (kind w == 3 && nat_lt 0 (load w)) EndPayload
    ∷ when (kind w == 3 && nat_lt 0 s.pending) GapAtEnd
    ∷ []

unfoldable pub refusal : State → ℕ → Option Refusal
refusal s w = first_of (checks s w)

-- the sample in a word of kind 1, where the gap is g
-- `min` only gives each number a sample: no feed has more than the longest gap pending, since a word that would pass it is refused
abbrev pub sample_in : ℕ → ℕ → Sample
sample_in g w = record {
  gap = min g longest_gap;
  letters = w % 2 ^ 24;
  short = lt_of_le_of_lt (min-le_right g longest_gap) (lit< tt);
  low = mod-lt w (lit< tt);
}

-- the sample that a word makes, and the state after it, where it is not refused
abbrev pub made : State → ℕ → Option Numbered
made s w = cond (kind w == 1) (Some (record { number = s.next; sample = sample_in s.pending w })) None

abbrev pub after : State → ℕ → State
after s w = record {
  next = cond (kind w == 1) (s.next + 1) s.next;
  pending = cond (kind w == 0) (s.pending + load w) 0;
  begun = true;
  ended = (kind w == 3);
}

-- what is answered to a word, and the state after it: a refused word alters nothing
abbrev pub answer_by : Option Refusal → Option Numbered → Result (Option Numbered) Refusal
answer_by (Some r) x = Err r
answer_by None x = Ok x

abbrev pub state_by : Option Refusal → State → State → State
state_by (Some r) s t = s
state_by None s t = t

pub record Took (s : State) (w : ℕ) (r : Result (Option Numbered) Refusal) (t : State) : Type 0 where
  pub answer : r ≡ answer_by (refusal s w) (made s w)
  pub state : t ≡ state_by (refusal s w) s (after s w)

-- begin was called with the number n
abbrev pub begin_refusal : State → ℕ → Option Refusal
begin_refusal s n = first_of (when s.begun WordTaken ∷ when (n == 0 || nat_lt last_number n) BadStart ∷ [])

abbrev pub numbered_from : State → ℕ → State
numbered_from s n = record { next = n; pending = s.pending; begun = s.begun; ended = s.ended }

abbrev pub done_by : Option Refusal → Result (Unit {0}) Refusal
done_by (Some r) = Err r
done_by None = Ok tt

pub record Began (s : State) (n : ℕ) (r : Result (Unit {0}) Refusal) (t : State) : Type 0 where
  pub answer : r ≡ done_by (begin_refusal s n)
  pub state : t ≡ state_by (begin_refusal s n) s (numbered_from s n)

-- what becomes of a list of words: they are taken in turn, up to the first that is refused
pub record Fed : Type 0 where
  pub state : State
  pub count : ℕ
  pub refused : Option Refusal
  pub samples : List Numbered

abbrev pub onward : Option Refusal → State → Option Numbered → Fed → Fed
onward (Some r) s x rest = record { state = s; count = 0; refused = Some r; samples = [] }
onward None s x rest = record
    { state = rest.state; count = suc rest.count; refused = rest.refused; samples = option_to_list x ++ rest.samples }

unfoldable pub feeding : State → List ℕ → Fed
feeding s [] = record { state = s; count = 0; refused = None; samples = [] }
feeding s (w ∷ ws) = onward (refusal s w) s (made s w) (feeding (after s w) ws)
