-- after q: the part from the first sample that has q.
use Rattle.std.specs.Prelude.{◌≡◌, ℕ, zero, suc, ◌≤◌, Bool, true, false, cond, List, [], ◌∷◌, Decides, refl}
use Rattle.std.proofs.Common.{arith}
use Rattle.std.proofs.lemmas.Bool.{false≢true, both_ways}
use Rattle.stream.specs.declared.sample.Sample.{Sample}
use Rattle.stream.specs.declared.signal.Signal.{Signal}
use Rattle.stream.specs.Signals.{holds_at}
use Rattle.monitor.specs.Sentences.{has}
use Rattle.monitor.proofs.Times.{not_then}
use Rattle.layers.specs.Layers.{from_first}
use Rattle.layers.specs.Parts.{Fails, FirstPart}

module _ (q : Signal) where
  pub from_alike : {F G : List Sample → Bool} → ((x : List Sample) → F x ≡ G x) → (l : List Sample) → from_first q F l ≡ from_first q G l
  from_alike e l = λ i. from_first q (λ x. e x i) l

module _ (q : Signal) (F : List Sample → Bool) where
  -- no sample up to n has q
  abbrev None : List Sample → ℕ → Type 0
  None l n = (k : ℕ) → 1 ≤ k → k ≤ n → has q l k → ⊥

  none_more : (s : Sample) (l : List Sample) (n : ℕ) → holds_at q s ≡ false → None l n → None (s ∷ l) (suc n)
  none_more s l n h none zero a b c = omega arith
  none_more s l n h none (suc zero) a b c = both_ways _ h c
  none_more s l n h none (suc (suc k)) a b c = none (suc k) (omega arith) (omega arith) c

  none_less : (s : Sample) (l : List Sample) (n : ℕ) → None (s ∷ l) (suc n) → None l n
  none_less s l n none zero a b c = omega arith
  none_less s l n none (suc k) a b c = none (suc (suc k)) (omega arith) (omega arith) c

  sound_step : (s : Sample) (l : List Sample) (b : Bool) → holds_at q s ≡ b → (from_first q F l ≡ true → FirstPart q (Fails F) l)
      → cond b (F (s ∷ l)) (from_first q F l) ≡ true → FirstPart q (Fails F) (s ∷ l)
  sound_step s l true h rest e = (0, omega arith, h, λ k a b. absurd (omega arith), e)
  sound_step s l false h rest e = let (n, lt, here, none, part) = rest e in (suc n, omega arith, here, none_more s l n h none, part)

  from_sound : (l : List Sample) → from_first q F l ≡ true → FirstPart q (Fails F) l
  from_sound [] e = absurd (false≢true e)
  from_sound (s ∷ l) e = sound_step s l (holds_at q s) refl (from_sound l) e

  from_complete : (l : List Sample) → FirstPart q (Fails F) l → from_first q F l ≡ true
  from_complete [] (n, lt, here, none, part) = absurd (omega arith)
  from_complete (s ∷ l) (zero, lt, here, none, part) = rw here part
  from_complete (s ∷ l) (suc n, lt, here, none, part) =
      let lacks : holds_at q s ≡ false = not_then _ (none 1 (omega arith) (omega arith)) in
      rw lacks (from_complete l (n, omega arith, here, none_less s l n none, part))

  -- over what answers like F
  pub after_decides : {G : List Sample → Bool} → ((x : List Sample) → G x ≡ F x) → (l : List Sample) → Decides (from_first q G l) (FirstPart q (Fails F) l)
  after_decides e l = rw (from_alike q e l) (from_sound l, from_complete l)
