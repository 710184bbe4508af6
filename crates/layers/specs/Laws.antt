-- What lasts: it fails on each list that begins with a list on which it fails. A layer lasts where what is below it does.
use Rattle.std.specs.Prelude.{◌≡◌, ℕ, zero, suc, Bool, true, false, cond, ◌&&◌, List, [], ◌∷◌, ◌++◌, refl}
use Rattle.std.proofs.lemmas.Bool.{and_parts, and_from, false≢true}
use Rattle.stream.specs.declared.sample.Sample.{Sample}
use Rattle.stream.specs.declared.signal.Signal.{Signal}
use Rattle.stream.specs.Signals.{holds_at}
use Rattle.layers.specs.declared.after.After.{After}
use Rattle.layers.specs.declared.either.Either.{Either}
use Rattle.layers.specs.declared.allow.Allow.{Allow}
use Rattle.layers.specs.declared.choice.Choice.{Choice}
use Rattle.layers.specs.declared.choice.Choice.TheVariants.{One, Other}
use Rattle.layers.specs.Layers.{from_first, overrun, after_now, after_new, allow_now, allow_new, either_fails, choice_fails}

abbrev pub Lasting : (List Sample → Bool) → Type 0
Lasting F = (l k : List Sample) → F l ≡ true → F (l ++ k) ≡ true

-- either of two ways lasts
pub either_way : (b x y u v : Bool) → (x ≡ true → u ≡ true) → (y ≡ true → v ≡ true) → cond b x y ≡ true → cond b u v ≡ true
either_way true x y u v f g e = f e
either_way false x y u v f g e = g e

-- the three layers
pub from_lasting : (q : Signal) (F : List Sample → Bool) → Lasting F → Lasting (from_first q F)
from_lasting q F h [] k e = absurd (false≢true e)
from_lasting q F h (s ∷ l) k e = either_way (holds_at q s) _ _ _ _ (h (s ∷ l) k) (from_lasting q F h l k) e

pub both_lasting : (F G : List Sample → Bool) → Lasting F → Lasting G → Lasting (λ l. F l && G l)
both_lasting F G f g l k e = let p = and_parts (F l) (G l) e in and_from _ _ (f l k p.0) (g l k p.1)

pub over_lasting : (n : ℕ) (F G : List Sample → Bool) → Lasting F → Lasting G → Lasting (overrun n F G)
over_lasting zero F G f g l k e = f l k e
over_lasting (suc n) F G f g [] k e = absurd (false≢true e)
over_lasting (suc n) F G f g (s ∷ l) k e =
    either_way (F (s ∷ [])) _ _ _ _ (over_lasting n G G g g l k) (over_lasting (suc n) (λ m. F (s ∷ m)) G (λ a b. f (s ∷ a) b) g l k) e

-- on no sample
pub over_none : (n : ℕ) (F G : List Sample → Bool) → F [] ≡ false → overrun n F G [] ≡ false
over_none zero F G e = e
over_none (suc n) F G e = refl

-- a layer's NOW and NEW, from those of what is below it
module _ {M : Type 0} (F : M → List Sample → Bool) (f : (m : M) → Lasting (F m)) where
  pub after_lasting : (m : After M) → Lasting (after_now F m)
  after_lasting m l k e = either_way m.opened _ _ _ _ (f m.below l k) (from_lasting m.trigger (F m.below) (f m.below) l k) e

  pub after_lasting_new : (m : After M) → Lasting (after_new F m)
  after_lasting_new m = from_lasting m.trigger (F m.below) (f m.below)

  pub allow_lasting_new : (m : Allow M) → Lasting (allow_new F m)
  allow_lasting_new m = over_lasting m.allowed (F m.below) (F m.below) (f m.below) (f m.below)

  pub allow_lasting : (G : M → List Sample → Bool) → ((m : M) → Lasting (G m)) → (m : Allow M) → Lasting (allow_now F G m)
  allow_lasting G g m = over_lasting m.left (F m.below) (G m.below) (f m.below) (g m.below)

module _ {M : Type 0} (G : M → List Sample → Bool) (g : (m : M) → G m [] ≡ false) where
  pub allow_none : (m : Allow M) → allow_new G m [] ≡ false
  allow_none m = over_none m.allowed (G m.below) (G m.below) (g m.below)

module _ {M N : Type 0} (F : M → List Sample → Bool) (G : N → List Sample → Bool) where
  module _ (f : (m : M) → Lasting (F m)) (g : (n : N) → Lasting (G n)) where
    pub either_lasting : (m : Either M N) → Lasting (either_fails F G m)
    either_lasting m = both_lasting (F m.first) (G m.second) (f m.first) (g m.second)

    pub choice_lasting : (m : Choice M N) → Lasting (choice_fails F G m)
    choice_lasting (One m) l k e = f m l k e
    choice_lasting (Other n) l k e = g n l k e

  module _ (f : (m : M) → F m [] ≡ false) (g : (n : N) → G n [] ≡ false) where
    pub either_none : (m : Either M N) → either_fails F G m [] ≡ false
    either_none m = rw (f m.first)

    pub choice_none : (m : Choice M N) → choice_fails F G m [] ≡ false
    choice_none (One m) = f m
    choice_none (Other n) = g n
