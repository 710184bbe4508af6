-- The words by which a sample is sent.
use Rattle.std.specs.Prelude.{◌≡◌, ℕ, ◌+◌, ◌-◌, ◌*◌, ◌/◌, ◌^◌, ◌≤◌, true, false, cond, List, [], ◌∷◌, ◌++◌, length, drop, replicate, Some, None, Ok, Err, Option, Result, ◌==◌, nat_lt}
use Rattle.stream.specs.declared.refusal.Refusal.{Refusal}
use Rattle.stream.specs.declared.refusal.Refusal.TheVariants.{HighLetter, ListTooShort}
use Rattle.stream.specs.declared.sample.Sample.{Sample}
use Rattle.stream.specs.Refusals.{when, first_of}
use Rattle.stream.specs.Words.{State, feeding, last_number}

-- the largest gap that one word can hold
abbrev pub full_gap : ℕ
full_gap = 1073741823

-- full words while more than that remains, and what then remains
abbrev pub full_words : ℕ → ℕ
full_words gap = (gap - 1) / full_gap

abbrev pub remainder : ℕ → ℕ
remainder gap = gap - full_words gap * full_gap

abbrev pub last_gap : ℕ → List ℕ
last_gap rest = cond (rest == 0) [] (rest ∷ [])

-- the words of a sample: its gap by words of kind 0, then its letters by a word of kind 1
abbrev pub words_of : ℕ → ℕ → ℕ → List ℕ
words_of fulls rest letters = replicate fulls full_gap ++ (last_gap rest ++ ((2 ^ 30 + letters) ∷ []))

abbrev pub sample_words : ℕ → ℕ → List ℕ
sample_words gap letters = words_of (full_words gap) (remainder gap) letters

-- what is answered where these words were to go into a list, and what the list then holds
abbrev pub sent_by : Option Refusal → ℕ → Result ℕ Refusal
sent_by (Some r) n = Err r
sent_by None n = Ok n

abbrev pub list_by : Option Refusal → List ℕ → List ℕ → List ℕ
list_by (Some r) ws out = out
list_by None ws out = ws ++ drop (length ws) out

pub record Put (refused : Option Refusal) (ws before : List ℕ) (r : Result ℕ Refusal) (after : List ℕ) : Type 0 where
  pub answer : r ≡ sent_by refused (length ws)
  pub list : after ≡ list_by refused ws before

-- the sender's checks, in their order
abbrev pub too_short : List ℕ → List ℕ → Option Refusal
too_short ws out = when (nat_lt (length out) (length ws)) ListTooShort

abbrev pub send_refusal : ℕ → ℕ → List ℕ → Option Refusal
send_refusal gap letters out = first_of (when (nat_lt 0 (letters / 2 ^ 24)) HighLetter ∷ too_short (sample_words gap letters) out ∷ [])

abbrev pub Sent : ℕ → ℕ → List ℕ → Result ℕ Refusal → List ℕ → Type 0
Sent gap letters before r after = Put (send_refusal gap letters before) (sample_words gap letters) before r after

-- from s on, these words are all taken, and make one sample, of this gap and these letters, which has the next number
pub record ReadAs (gap letters : ℕ) (s : State) (ws : List ℕ) : Type 0 where
  pub sample : Sample
  pub gap_is : sample.gap ≡ gap
  pub letters_are : sample.letters ≡ letters
  pub all_taken : feeding s ws ≡ record {
    state = record { next = s.next + 1; pending = 0; begun = true; ended = false };
    count = length ws;
    refused = None;
    samples = record { number = s.next; sample = sample } ∷ [];
  }

-- a feed reads the words as that sample, where no gap is pending, the stream goes on, and a number is left
abbrev pub ReadsBack : ℕ → ℕ → List ℕ → Type 0
ReadsBack gap letters ws = (s : State) → s.pending ≡ 0 → s.ended ≡ false → s.next ≤ last_number → ReadAs gap letters s ws
