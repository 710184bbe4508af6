-- What a rule's clock says of the samples before it.
use Rattle.std.proofs.Common.{◌≡◌, ℕ, zero, suc, ◌-◌, ◌<◌, ◌≤◌, min, true, List, ⊎_elim, arith, Some, None}
use Rattle.std.proofs.lemmas.Bool.{cases_lt, ltb-true, lt-ltb, leb-true, le-leb, false≢true}
use Rattle.stream.specs.declared.sample.Sample.{Sample}
use Rattle.monitor.specs.declared.pattern.Pattern.{Pattern}
use Rattle.monitor.specs.declared.limit.Ticks.{Ticks}
use Rattle.monitor.specs.Clocks.{Clock, highest, advanced, reached, passed, short_of}
use Rattle.monitor.specs.Turns.{turn_of}
use Rattle.monitor.specs.Sentences.{nth, time}
use Rattle.monitor.proofs.Runs.{clock_at}
use Rattle.monitor.proofs.Times.{time_next, time_mono, upto}

-- what a clock says: off after sample k, or the time from its start a to sample e, as it ran from a to k
pub record Counting : Type 1 where
  pub off : ℕ → Type 0
  pub start : ℕ → Type 0
  pub on : ℕ → Type 0

module _ (l : List Sample) (w : Counting) where
  abbrev pub Ran : ℕ → (ℕ → Type 0) → Type 0
  Ran k Q = (a : ℕ) × (1 ≤ a) × (a ≤ k) × w.start a × ((m : ℕ) → a < m → m ≤ k → w.on m) × Q a

  abbrev pub Says : ℕ → ℕ → Clock → Type 0
  Says k e None = w.off k
  Says k e (Some c) = Ran k (λ a. c ≡ min (time l e - time l a) highest)

  pub starts : (k : ℕ) → w.start (suc k) → Says (suc k) (suc k) (Some 0)
  starts k s = (suc k, omega arith, omega arith, s, λ m a b. absurd (omega arith), omega arith)

  pub goes_on : (k c : ℕ) → w.on (suc k) → Says k (suc k) (Some c) → Says (suc k) (suc k) (Some c)
  goes_on k c s (a, lo, hi, st, on, is) = (a, lo, omega arith, st, λ m x y. upto w.on k s m y (on m x), is)

  pub later : (k : ℕ) (o : Clock) → Says k k o → Says k (suc k) (advanced o (nth l (suc k)).gap)
  later k None h = h
  later k (Some c) (a, lo, hi, st, on, is) = (a, lo, hi, st, on, omega (arith, time_next l k (omega arith), time_mono l a k lo hi))

  -- the clock after k samples, from what one sample does to it
  pub says : (p : Pattern) → w.off 0 → ((k : ℕ) (o : Clock) → Says k k o → Says (suc k) (suc k) (turn_of p o (nth l (suc k))).clock) → (k : ℕ) → Says k k (clock_at p None l k)
  says p none next zero = none
  says p none next (suc k) = next k (clock_at p None l k) (says p none next k)

  -- the three tests of a clock, each in both directions
  pub passed_true : (t : Ticks) (k e : ℕ) (o : Clock) → Says k e o → passed o t.value ≡ true → Ran k (λ a. t.value < time l e - time l a)
  passed_true t k e None h f = absurd (false≢true f)
  passed_true t k e (Some c) (a, lo, hi, st, on, is) f = (a, lo, hi, st, on, omega (arith, ltb-true _ _ f))

  pub short_true : (t : Ticks) (k e : ℕ) (o : Clock) → Says k e o → short_of o t.value ≡ true → Ran k (λ a. time l e - time l a < t.value)
  short_true t k e None h f = absurd (false≢true f)
  short_true t k e (Some c) (a, lo, hi, st, on, is) f = (a, lo, hi, st, on, omega (arith, ltb-true _ _ f))

  pub reached_true : (t : Ticks) (k e : ℕ) (o : Clock) → Says k e o → reached o t.value ≡ true → Ran k (λ a. t.value ≤ time l e - time l a)
  reached_true t k e None h f = absurd (false≢true f)
  reached_true t k e (Some c) (a, lo, hi, st, on, is) f = (a, lo, hi, st, on, omega (arith, leb-true _ _ f))

  -- the clock is on, and began no later than i
  pub passed_from : (t : Ticks) (k e i : ℕ) (o : Clock) → Says k e o → (w.off k → ⊥) → (Ran k (λ a. i < a) → ⊥) → t.value < time l e - time l i → passed o t.value ≡ true
  passed_from t k e i None h on far past = absurd (on h)
  passed_from t k e i (Some c) (a, lo, hi, st, run, is) on far past =
      ⊎_elim (λ e. absurd (far (a, lo, hi, st, run, e))) (λ e. lt-ltb _ _ (omega (arith, time_mono l a i lo e))) (cases_lt i a)

  pub reached_from : (t : Ticks) (k e i : ℕ) (o : Clock) → Says k e o → (w.off k → ⊥) → (Ran k (λ a. i < a) → ⊥) → t.value ≤ time l e - time l i → reached o t.value ≡ true
  reached_from t k e i None h on far past = absurd (on h)
  reached_from t k e i (Some c) (a, lo, hi, st, run, is) on far past =
      ⊎_elim (λ e. absurd (far (a, lo, hi, st, run, e))) (λ e. le-leb _ _ (omega (arith, time_mono l a i lo e))) (cases_lt i a)

  -- the clock is on, and began no earlier than i
  pub short_from : (t : Ticks) (k e i : ℕ) (o : Clock) → Says k e o → (w.off k → ⊥) → 1 ≤ i → (Ran k (λ a. a < i) → ⊥) → time l e - time l i < t.value → short_of o t.value ≡ true
  short_from t k e i None h on li far near = absurd (on h)
  short_from t k e i (Some c) (a, lo, hi, st, run, is) on li far near =
      ⊎_elim (λ e. absurd (far (a, lo, hi, st, run, e))) (λ e. lt-ltb _ _ (omega (arith, time_mono l i a li e))) (cases_lt a i)
