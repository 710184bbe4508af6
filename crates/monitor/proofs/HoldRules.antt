-- hold p least t, and hold p under t.
use Rattle.std.proofs.Common.{◌≡◌, ℕ, zero, suc, ◌-◌, ◌<◌, ◌≤◌, Bool, true, false, ◌⊎◌, List, refl, ap, inl, inr, ⊎_elim, arith, Some, None}
use Rattle.monitor.specs.Clocks.{Clock}
use Rattle.std.proofs.lemmas.Bool.{both_ways, and_parts, and_from, not-true, not_from_false}
use Rattle.stream.specs.declared.sample.Sample.{Sample}
use Rattle.stream.specs.declared.signal.Signal.{Signal}
use Rattle.monitor.specs.declared.limit.Ticks.{Ticks}
use Rattle.monitor.specs.declared.pattern.Pattern.TheVariants.{HoldLeast, HoldUnder}
use Rattle.stream.specs.Signals.{holds_at}
use Rattle.monitor.specs.Turns.{while}
use Rattle.monitor.specs.Sentences.{nth, has, Sentence}
use Rattle.monitor.proofs.Runs.{clock_at, Fault}
use Rattle.monitor.proofs.Times.{prev, from, not_then}
use Rattle.monitor.proofs.Readings.{Counting, Says, starts, goes_on, later, says, short_true, reached_true, short_from, reached_from}

-- the clock runs since p began to hold
module _ (p : Signal) (t : Ticks) (l : List Sample) where
  abbrev Apart : ℕ → Type 0
  Apart k = (k ≡ 0) ⊎ (has p l k → ⊥)

  abbrev H : Counting
  H = record { off = Apart; start = λ a. has p l a × Apart (prev a); on = has p l }

  held_next : (k : ℕ) (o : Clock) (bp : Bool) → holds_at p (nth l (suc k)) ≡ bp → Says l H k (suc k) o → Says l H (suc k) (suc k) (while o bp)
  held_next k None true ep h = starts l H k (ep, h)
  held_next k None false ep h = inr (both_ways _ ep)
  held_next k (Some c) true ep h = goes_on l H k c ep h
  held_next k (Some c) false ep h = inr (both_ways _ ep)

  least_says : (k : ℕ) → Says l H k k (clock_at (HoldLeast p t) None l k)
  least_says = says l H (HoldLeast p t) (inl refl) (λ k o h. held_next k _ _ refl (later l H k o h))

  under_says : (k : ℕ) → Says l H k k (clock_at (HoldUnder p t) None l k)
  under_says = says l H (HoldUnder p t) (inl refl) (λ k o h. held_next k _ _ refl (later l H k o h))

  began : (a : ℕ) → 1 ≤ a → Apart (prev a) → (a ≡ 1) ⊎ (has p l (a - 1) → ⊥)
  began zero lo h = absurd (omega arith)
  began (suc a) lo h = ⊎_elim (λ e. inl (ap suc e)) (λ n. inr (let same : suc a - 1 ≡ a = omega arith in rw same n)) h

  pub least_sound : Fault (HoldLeast p t) l → Sentence (HoldLeast p t) l
  least_sound (m, lt, f) =
      let (ends, short) = and_parts _ _ f in
      let (a, lo, hi, st, on, near) = short_true l H t m (suc m) _ (later l H m _ (least_says m)) short in
      (a, suc m, lo, omega arith, lt, λ k x y. from (has p l) a m st.0 on k x (omega arith), both_ways _ (not-true _ ends), began a lo st.1, near)

  -- where p holds up to k, the clock is on
  on_at : (k : ℕ) → 1 ≤ k → has p l k → Apart k → ⊥
  on_at k lo hp off = ⊎_elim (λ z. omega arith) (λ n. n hp) off

  pub least_complete : Sentence (HoldLeast p t) l → Fault (HoldLeast p t) l
  least_complete (a, zero, lo, lt, hi, all, ends, bg, near) = absurd (omega arith)
  least_complete (a, suc m, lo, lt, hi, all, ends, bg, near) = (
    m,
    hi,
    and_from _ _ (not_from_false _ (not_then _ ends))
        (short_from l H t m (suc m) a _ (later l H m _ (least_says m)) (on_at m (omega arith) (all m (omega arith) (omega arith))) lo
        (λ (b, lb, hb, st, on, e). ⊎_elim (λ one. omega arith) (λ n. n (from (has p l) b m st.0 on (a - 1) (omega arith) (omega arith))) bg)
        near),
  )

  pub under_sound : Fault (HoldUnder p t) l → Sentence (HoldUnder p t) l
  under_sound (m, lt, f) =
      let (a, lo, hi, st, on, far) = reached_true l H t (suc m) (suc m) _ (under_says (suc m)) f in
      (a, suc m, lo, hi, lt, from (has p l) a (suc m) st.0 on, far)

  first : (a b k : ℕ) → 1 ≤ a → a < b → b ≤ k → ((m : ℕ) → a ≤ m → m ≤ k → has p l m) → Apart (prev b) → ⊥
  first a zero k lo lt hb all bg = omega arith
  first a (suc b) k lo lt hb all bg = on_at b (omega arith) (all b (omega arith) (omega arith)) bg

  pub under_complete : Sentence (HoldUnder p t) l → Fault (HoldUnder p t) l
  under_complete (a, zero, lo, lt, hi, all, far) = absurd (omega arith)
  under_complete (a, suc m, lo, lt, hi, all, far) = (
    m,
    hi,
    reached_from l H t (suc m) (suc m) a _ (under_says (suc m)) (on_at (suc m) (omega arith) (all (suc m) lt (omega arith)))
        (λ r. first a r.0 (suc m) lo r.5 r.2 all r.3.1) far,
  )
