-- When a rule fails on a list of samples.
use Rattle.std.specs.Prelude.{◌≡◌, ℕ, zero, suc, ◌+◌, ◌-◌, ◌<◌, ◌≤◌, true, ◌⊎◌, List, length, slice_index_or}
use Rattle.std.proofs.Common.{lit<}
use Rattle.stream.specs.declared.sample.Sample.{Sample}
use Rattle.stream.specs.declared.signal.Signal.{Signal}
use Rattle.stream.specs.Signals.{holds_at}
use Rattle.monitor.specs.declared.pattern.Pattern.{Pattern}
use Rattle.monitor.specs.declared.pattern.Pattern.TheVariants.{Never, NeverFrom, HoldLeast, HoldUnder, Repeat, Answer, Keep}

-- what stands where there is no sample; whether a sentence below holds never hangs on it
abbrev pub blank : Sample
blank = record { gap = 0; letters = 0; short = lit< tt; low = lit< tt }

-- sample number i, from 1
abbrev pub nth : List Sample → ℕ → Sample
nth l zero = blank
nth l (suc i) = slice_index_or l i blank

-- its time: 0 for sample 1, and for a later one the time before it plus its gap
abbrev pub time : List Sample → ℕ → ℕ
time l zero = 0
time l (suc zero) = 0
time l (suc (suc i)) = time l (suc i) + (nth l (suc (suc i))).gap

-- the time from sample i to sample j
abbrev pub d : List Sample → ℕ → ℕ → ℕ
d l i j = time l j - time l i

-- sample i has p
abbrev pub has : Signal → List Sample → ℕ → Type 0
has p l i = holds_at p (nth l i) ≡ true

abbrev pub Sentence : Pattern → List Sample → Type 0
Sentence (Never p) l = (i : ℕ) × (1 ≤ i) × (i ≤ length l) × has p l i
Sentence (NeverFrom p t) l = (i : ℕ) × (1 ≤ i) × (i ≤ length l) × (t.value ≤ d l 1 i) × has p l i
Sentence (HoldLeast p t) l =
    (a : ℕ) × (c : ℕ) × (1 ≤ a) × (a < c) × (c ≤ length l) × ((k : ℕ) → a ≤ k → k < c → has p l k) × (has p l c → ⊥)
    × ((a ≡ 1) ⊎ (has p l (a - 1) → ⊥)) × (d l a c < t.value)
Sentence (HoldUnder p t) l =
    (a : ℕ) × (b : ℕ) × (1 ≤ a) × (a ≤ b) × (b ≤ length l) × ((k : ℕ) → a ≤ k → k ≤ b → has p l k) × (t.value ≤ d l a b)
Sentence (Repeat p t) l =
    (i : ℕ) × (j : ℕ) × (1 ≤ i) × (i < j) × (j ≤ length l) × ((i ≡ 1) ⊎ has p l i) × (t.value < d l i j)
    × ((k : ℕ) → i < k → k ≤ j → d l i k ≤ t.value → has p l k → ⊥)
Sentence (Answer p s t) l =
    (i : ℕ) × (j : ℕ) × (1 ≤ i) × (i < j) × (j ≤ length l) × has p l i × (t.value < d l i j)
    × ((k : ℕ) → i ≤ k → k ≤ j → d l i k ≤ t.value → has s l k → ⊥)
Sentence (Keep s t p) l =
    (i : ℕ) × (j : ℕ) × (1 ≤ i) × (i ≤ j) × (j ≤ length l) × has p l i × (d l i j < t.value) × (has s l j → ⊥)
