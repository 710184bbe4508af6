-- never p, and never p from t.
use Rattle.std.proofs.Common.{◌≡◌, ℕ, zero, suc, List, refl, ap, arith, Some, None}
use Rattle.std.proofs.lemmas.Bool.{and_parts, and_from}
use Rattle.stream.specs.declared.sample.Sample.{Sample}
use Rattle.stream.specs.declared.signal.Signal.{Signal}
use Rattle.monitor.specs.declared.limit.Ticks.{Ticks}
use Rattle.monitor.specs.declared.pattern.Pattern.TheVariants.{Never, NeverFrom}
use Rattle.monitor.specs.Clocks.{Clock, begun}
use Rattle.monitor.specs.Sentences.{Sentence}
use Rattle.monitor.proofs.Runs.{clock_at, Fault}
use Rattle.monitor.proofs.Readings.{Counting, Says, starts, goes_on, later, says, reached_true, reached_from}

pub never_sound : (p : Signal) (l : List Sample) → Fault (Never p) l → Sentence (Never p) l
never_sound p l (m, lt, f) = (suc m, omega arith, lt, f)

pub never_complete : (p : Signal) (l : List Sample) → Sentence (Never p) l → Fault (Never p) l
never_complete p l (zero, a, b, h) = absurd (omega arith)
never_complete p l (suc m, a, b, h) = (m, b, h)

-- the clock runs since sample 1
module _ (p : Signal) (t : Ticks) (l : List Sample) where
  abbrev N : Counting
  N = record { off = λ k. k ≡ 0; start = λ a. a ≡ 1; on = λ _. Unit {0} }

  from_next : (k : ℕ) (o : Clock) → Says l N k (suc k) o → Says l N (suc k) (suc k) (begun o)
  from_next k None h = starts l N k (ap suc h)
  from_next k (Some c) h = goes_on l N k c tt h

  from_says : (k : ℕ) → Says l N k k (clock_at (NeverFrom p t) None l k)
  from_says = says l N (NeverFrom p t) refl (λ k o h. from_next k _ (later l N k o h))

  pub from_sound : Fault (NeverFrom p t) l → Sentence (NeverFrom p t) l
  from_sound (m, lt, f) =
      let (hp, far) = and_parts _ _ f in
      let (a, _, _, one, _, late) = reached_true l N t (suc m) (suc m) _ (from_says (suc m)) far in
      (suc m, omega arith, lt, rw one at late, hp)

  pub from_complete : Sentence (NeverFrom p t) l → Fault (NeverFrom p t) l
  from_complete (zero, lo, hi, far, hp) = absurd (omega arith)
  from_complete (suc m, lo, hi, far, hp) = (m, hi, and_from _ _ hp (reached_from l N t (suc m) (suc m) 1 _ (from_says (suc m)) (λ z. omega arith) (λ r. omega arith) far))
