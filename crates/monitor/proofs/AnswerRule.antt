-- answer p by s within t.
use Rattle.std.proofs.Common.{◌≡◌, ℕ, zero, suc, ◌-◌, ◌<◌, ◌≤◌, Bool, true, false, List, refl, arith, Some, None}
use Rattle.monitor.specs.Clocks.{Clock}
use Rattle.std.proofs.lemmas.Bool.{both_ways}
use Rattle.stream.specs.declared.sample.Sample.{Sample}
use Rattle.stream.specs.declared.signal.Signal.{Signal}
use Rattle.monitor.specs.declared.limit.Ticks.{Ticks}
use Rattle.monitor.specs.declared.pattern.Pattern.TheVariants.{Answer}
use Rattle.stream.specs.Signals.{holds_at}
use Rattle.monitor.specs.Turns.{answer_turn}
use Rattle.monitor.specs.Sentences.{nth, time, has, Sentence}
use Rattle.monitor.proofs.Runs.{clock_at, Fault}
use Rattle.monitor.proofs.Times.{time_mono, first_past, prev, from, upto}
use Rattle.monitor.proofs.Readings.{Counting, Says, starts, goes_on, later, says, passed_true, passed_from}

-- the clock runs since the first p after which no s came
module _ (p s : Signal) (t : Ticks) (l : List Sample) where
  -- each p up to k has an s after it
  abbrev Answered : ℕ → Type 0
  Answered k = (i : ℕ) → 1 ≤ i → i ≤ k → has p l i → ((m : ℕ) → i ≤ m → m ≤ k → has s l m → ⊥) → ⊥

  abbrev A : Counting
  A = record { off = Answered; start = λ a. has p l a × (has s l a → ⊥) × Answered (prev a); on = λ m. has s l m → ⊥ }

  answer_next : (k : ℕ) (o : Clock) (bp bs : Bool) → holds_at p (nth l (suc k)) ≡ bp → holds_at s (nth l (suc k)) ≡ bs
      → Says l A k (suc k) o → Says l A (suc k) (suc k) (answer_turn o t.value bp bs).clock
  answer_next k o bp true ep es h = λ i a b hp none. none (suc k) b (omega arith) es
  answer_next k None true false ep es h = starts l A k (ep, both_ways _ es, h)
  answer_next k None false false ep es h =
      λ i a b hp none. upto (λ i. has p l i → ⊥) k (both_ways _ ep) i b (λ e hp. h i a e hp (λ m x y. none m x (omega arith))) hp
  answer_next k (Some c) true false ep es h = goes_on l A k c (both_ways _ es) h
  answer_next k (Some c) false false ep es h = goes_on l A k c (both_ways _ es) h

  answer_says : (k : ℕ) → Says l A k k (clock_at (Answer p s t) None l k)
  answer_says = says l A (Answer p s t) (λ i a b. absurd (omega arith)) (λ k o h. answer_next k _ _ _ refl refl (later l A k o h))

  pub answer_sound : Fault (Answer p s t) l → Sentence (Answer p s t) l
  answer_sound (m, lt, f) =
      let (a, lo, hi, st, on, past) = passed_true l A t m (suc m) _ (later l A m _ (answer_says m)) f in (
        a,
        suc m,
        lo,
        omega arith,
        lt,
        st.0,
        past,
        λ k x y. upto (λ k. time l k - time l a ≤ t.value → has s l k → ⊥) m (λ near. absurd (omega arith)) k y (λ e _. from (λ k. has s l k → ⊥) a m st.1 on k x e),
      )

  -- a p with no s after it comes no earlier than the clock's
  first : (i a m : ℕ) → 1 ≤ i → i < a → a ≤ m → has p l i → ((k : ℕ) → i ≤ k → k ≤ m → has s l k → ⊥) → Answered (prev a) → ⊥
  first i zero m lo lt hi hp none before = omega arith
  first i (suc a) m lo lt hi hp none before = before i lo (omega arith) hp (λ k x y. none k x (omega arith))

  pub answer_complete : Sentence (Answer p s t) l → Fault (Answer p s t) l
  answer_complete (i, j, lo, lt, hi, hp, past, none) =
      let (m, im, mj, near, far) = first_past l t.value i j lo lt past in
      let none' : (k : ℕ) → i ≤ k → k ≤ m → has s l k → ⊥ = λ k x y. none k x (omega arith) (omega (arith, time_mono l k m (omega arith) y)) in (
        m,
        omega arith,
        passed_from l A t m (suc m) i _ (later l A m _ (answer_says m)) (λ off. off i lo im hp none')
            (λ r. first i r.0 m lo r.5 r.2 hp none' r.3.2) far,
      )
