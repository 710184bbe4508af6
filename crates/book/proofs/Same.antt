-- Openings that fail are the same for sentences that are.
use Rattle.std.proofs.Common.{ℕ, zero, suc, Bool, List, take, drop, Decides}
use Rattle.stream.specs.declared.sample.Sample.{Sample}
use Rattle.layers.specs.Parts.{Fails, Breaks}

breaks_by : {P Q : List Sample → Type 0} → ((l : List Sample) → P l → Q l) → ((l : List Sample) → Q l → P l) → (k : ℕ) (l : List Sample) → Breaks P k l → Breaks Q k l
breaks_by f g zero l b = tt
breaks_by f g (suc k) l (n, (a, e, none), rest) =
    (n, (a, f (take n l) e, λ m lt q. none m lt (g (take m l) q)), breaks_by f g k (drop n l) rest)

module _ (F : List Sample → Bool) (P : List Sample → Type 0) (d : (l : List Sample) → Decides (F l) (P l)) (b : Bool) where
  pub by_breaks : (k : ℕ) (l : List Sample) → Decides b (Breaks (Fails F) k l) → Decides b (Breaks P k l)
  by_breaks k l e = (
    λ h. breaks_by {P = Fails F} {Q = P} (λ x. (d x).0) (λ x. (d x).1) k l (e.0 h),
    λ h. e.1 (breaks_by {P = P} {Q = Fails F} (λ x. (d x).1) (λ x. (d x).0) k l h),
  )
