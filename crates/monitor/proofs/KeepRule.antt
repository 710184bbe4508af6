-- keep s for t since p.
use Rattle.std.proofs.Common.{◌≡◌, ℕ, zero, suc, ◌≤◌, Bool, true, false, List, refl, arith, Some, None}
use Rattle.monitor.specs.Clocks.{Clock}
use Rattle.std.proofs.lemmas.Bool.{both_ways, and_parts, and_from, not-true, not_from_false}
use Rattle.stream.specs.declared.sample.Sample.{Sample}
use Rattle.stream.specs.declared.signal.Signal.{Signal}
use Rattle.monitor.specs.declared.limit.Ticks.{Ticks}
use Rattle.monitor.specs.declared.pattern.Pattern.TheVariants.{Keep}
use Rattle.stream.specs.Signals.{holds_at}
use Rattle.monitor.specs.Turns.{keep_turn}
use Rattle.monitor.specs.Sentences.{nth, has, Sentence}
use Rattle.monitor.proofs.Runs.{clock_at, Fault}
use Rattle.monitor.proofs.Times.{upto, not_then}
use Rattle.monitor.proofs.Readings.{Counting, Says, starts, goes_on, later, says, short_true, short_from}

-- the clock runs since the last p
module _ (s : Signal) (t : Ticks) (p : Signal) (l : List Sample) where
  abbrev K : Counting
  K = record { off = λ k. (i : ℕ) → 1 ≤ i → i ≤ k → has p l i → ⊥; start = has p l; on = λ m. has p l m → ⊥ }

  keep_next : (k : ℕ) (o : Clock) (bp bs : Bool) → holds_at p (nth l (suc k)) ≡ bp → Says l K k (suc k) o → Says l K (suc k) (suc k) (keep_turn o t.value bp bs).clock
  keep_next k o true bs ep h = starts l K k ep
  keep_next k None false bs ep h = λ i a b. upto (λ i. has p l i → ⊥) k (both_ways _ ep) i b (h i a)
  keep_next k (Some c) false bs ep h = goes_on l K k c (both_ways _ ep) h

  keep_says : (k : ℕ) → Says l K k k (clock_at (Keep s t p) None l k)
  keep_says = says l K (Keep s t p) (λ i a b. absurd (omega arith)) (λ k o h. keep_next k _ _ (holds_at s (nth l (suc k))) refl (later l K k o h))

  pub keep_sound : Fault (Keep s t p) l → Sentence (Keep s t p) l
  keep_sound (m, lt, f) =
      let (out, early) = and_parts _ _ f in
      let (a, lo, hi, st, on, near) = short_true l K t (suc m) (suc m) _ (keep_says (suc m)) early in
      (a, suc m, lo, hi, lt, st, near, both_ways _ (not-true _ out))

  pub keep_complete : Sentence (Keep s t p) l → Fault (Keep s t p) l
  keep_complete (i, zero, lo, lt, hi, hp, near, out) = absurd (omega arith)
  keep_complete (i, suc m, lo, lt, hi, hp, near, out) = (
    m,
    hi,
    and_from _ _ (not_from_false _ (not_then _ out))
        (short_from l K t (suc m) (suc m) i _ (keep_says (suc m)) (λ off. off i lo lt hp) lo (λ r. r.4 i r.5 lt hp) near),
  )
