-- repeat p within t.
use Rattle.std.proofs.Common.{◌≡◌, ℕ, suc, ◌-◌, ◌≤◌, Bool, true, false, ◌⊎◌, List, refl, ap, inl, inr, ⊎_elim, arith, Some, None}
use Rattle.monitor.specs.Clocks.{Clock}
use Rattle.std.proofs.lemmas.Bool.{both_ways}
use Rattle.stream.specs.declared.sample.Sample.{Sample}
use Rattle.stream.specs.declared.signal.Signal.{Signal}
use Rattle.monitor.specs.declared.limit.Ticks.{Ticks}
use Rattle.monitor.specs.declared.pattern.Pattern.TheVariants.{Repeat}
use Rattle.stream.specs.Signals.{holds_at}
use Rattle.monitor.specs.Turns.{repeat_turn}
use Rattle.monitor.specs.Sentences.{nth, time, has, Sentence}
use Rattle.monitor.proofs.Runs.{clock_at, Fault}
use Rattle.monitor.proofs.Times.{time_mono, first_past, upto}
use Rattle.monitor.proofs.Readings.{Counting, Says, starts, goes_on, later, says, passed_true, passed_from}

-- the clock runs since the last p, or since sample 1
module _ (p : Signal) (t : Ticks) (l : List Sample) where
  abbrev R : Counting
  R = record { off = λ k. k ≡ 0; start = λ a. (a ≡ 1) ⊎ has p l a; on = λ m. has p l m → ⊥ }

  repeat_next : (k : ℕ) (o : Clock) (bp : Bool) → holds_at p (nth l (suc k)) ≡ bp → Says l R k (suc k) o → Says l R (suc k) (suc k) (repeat_turn o t.value bp).clock
  repeat_next k o true ep h = starts l R k (inr ep)
  repeat_next k None false ep h = starts l R k (inl (ap suc h))
  repeat_next k (Some c) false ep h = goes_on l R k c (both_ways _ ep) h

  repeat_says : (k : ℕ) → Says l R k k (clock_at (Repeat p t) None l k)
  repeat_says = says l R (Repeat p t) refl (λ k o h. repeat_next k _ _ refl (later l R k o h))

  pub repeat_sound : Fault (Repeat p t) l → Sentence (Repeat p t) l
  repeat_sound (m, lt, f) =
      let (a, lo, hi, st, on, past) = passed_true l R t m (suc m) _ (later l R m _ (repeat_says m)) f in (
        a,
        suc m,
        lo,
        omega arith,
        lt,
        st,
        past,
        λ k x y. upto (λ k. time l k - time l a ≤ t.value → has p l k → ⊥) m (λ near. absurd (omega arith)) k y (λ e _. on k x e),
      )

  pub repeat_complete : Sentence (Repeat p t) l → Fault (Repeat p t) l
  repeat_complete (i, j, lo, lt, hi, st, past, none) =
      let (m, im, mj, near, far) = first_past l t.value i j lo lt past in (
        m,
        omega arith,
        passed_from l R t m (suc m) i _ (later l R m _ (repeat_says m)) (λ z. omega arith)
            (λ r. ⊎_elim (λ one. omega arith) (none r.0 r.5 (omega arith) (omega (arith, time_mono l r.0 m r.1 r.2))) r.3)
            far,
      )
