-- Times of samples, and facts about all samples between two.
use Rattle.std.proofs.Common.{◌≡◌, ℕ, zero, suc, ◌+◌, ◌-◌, ◌<◌, ◌≤◌, Bool, true, false, List, refl, ap, subst, ⊎_elim, arith}
use Rattle.std.proofs.lemmas.Bool.{cases_lt}
use Rattle.stream.specs.declared.sample.Sample.{Sample}
use Rattle.monitor.specs.Sentences.{nth, time}

pub time_next : (l : List Sample) (k : ℕ) → 1 ≤ k → time l (suc k) ≡ time l k + (nth l (suc k)).gap
time_next l zero h = absurd (omega arith)
time_next l (suc k) h = refl

pub time_mono : (l : List Sample) (i j : ℕ) → 1 ≤ i → i ≤ j → time l i ≤ time l j
time_mono l i zero a h = absurd (omega arith)
time_mono l i (suc j) a h =
    ⊎_elim (λ e. omega (arith, time_mono l i j a (omega arith), time_next l j (omega arith))) (λ e. let same : i ≡ suc j = omega arith in omega (arith, ap (time l) same)) (cases_lt i (suc j))

-- the first sample past a limit
pub first_past : (l : List Sample) (t i j : ℕ) → 1 ≤ i → i < j → t < time l j - time l i → (m : ℕ) × (i ≤ m) × (m < j) × (time l m - time l i ≤ t) × (t < time l (suc m) - time l i)
first_past l t i zero a h b = absurd (omega arith)
first_past l t i (suc j) a h b =
    ⊎_elim
    (λ e. ⊎_elim
    (λ f. let r = first_past l t i j a f e in (r.0, r.1, omega arith, r.3, r.4))
    (λ f. let same : i ≡ j = omega arith in absurd (omega (arith, ap (time l) same)))
    (cases_lt i j))
    (λ e. (j, omega arith, omega arith, e, b))
    (cases_lt t (time l j - time l i))

abbrev pub prev : ℕ → ℕ
prev zero = zero
prev (suc k) = k

-- from a to k, from a and past it
pub from : (P : ℕ → Type 0) (a k : ℕ) → P a → ((m : ℕ) → a < m → m ≤ k → P m) → (m : ℕ) → a ≤ m → m ≤ k → P m
from P a k here on m x y = ⊎_elim (λ e. on m e y) (λ e. let same : a ≡ m = omega arith in subst P same here) (cases_lt a m)

-- up to k + 1, up to k and at k + 1
pub upto : (P : ℕ → Type 0) (k : ℕ) → P (suc k) → (m : ℕ) → m ≤ suc k → (m ≤ k → P m) → P m
upto P k here m y below = ⊎_elim (λ e. below (omega arith)) (λ e. let same : suc k ≡ m = omega arith in subst P same here) (cases_lt m (suc k))

pub not_then : (b : Bool) → (b ≡ true → ⊥) → b ≡ false
not_then true n = absurd (n refl)
not_then false n = refl
