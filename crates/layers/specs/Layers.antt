-- What each layer answers, step by step, from what is below it. That as new it answers its sentence is promised where a layer is made.
use Rattle.std.specs.Prelude.{ℕ, zero, suc, Bool, false, cond, ◌&&◌, List, [], ◌∷◌}
use Rattle.stream.specs.declared.sample.Sample.{Sample}
use Rattle.stream.specs.declared.signal.Signal.{Signal}
use Rattle.stream.specs.Signals.{holds_at}
use Rattle.layers.specs.declared.after.After.{After}
use Rattle.layers.specs.declared.either.Either.{Either}
use Rattle.layers.specs.declared.allow.Allow.{Allow}
use Rattle.layers.specs.declared.choice.Choice.{Choice}
use Rattle.layers.specs.declared.choice.Choice.TheVariants.{One, Other}

-- what F says of the part from the first sample that has q on, and false where none has q
abbrev pub from_first : Signal → (List Sample → Bool) → List Sample → Bool
from_first q F [] = false
from_first q F (s ∷ l) = cond (holds_at q s) (F (s ∷ l)) (from_first q F l)

-- whether more than k failures are found: the first by F, and each further one by G on the remainder
abbrev pub overrun : ℕ → (List Sample → Bool) → (List Sample → Bool) → List Sample → Bool
overrun zero F G l = F l
overrun (suc k) F G [] = false
overrun (suc k) F G (s ∷ l) = cond (F (s ∷ [])) (overrun k G G l) (overrun (suc k) (λ m. F (s ∷ m)) G l)

-- F is the NOW of what is below, and G the NEW
module _ {M : Type 0} where
  -- after as it stands: opened, it fails as what is below does, else as that does on the part from the first trigger on
  abbrev pub after_now : (M → List Sample → Bool) → After M → List Sample → Bool
  after_now F m l = cond m.opened (F m.below l) (from_first m.trigger (F m.below) l)

  -- after as new
  abbrev pub after_new : (M → List Sample → Bool) → After M → List Sample → Bool
  after_new G m l = from_first m.trigger (G m.below) l

  -- allow as it stands: more failures are found than are left
  abbrev pub allow_now : (M → List Sample → Bool) → (M → List Sample → Bool) → Allow M → List Sample → Bool
  allow_now F G m l = overrun m.left (F m.below) (G m.below) l

  -- allow as new: more failures are found than are allowed
  abbrev pub allow_new : (M → List Sample → Bool) → Allow M → List Sample → Bool
  allow_new G m l = overrun m.allowed (G m.below) (G m.below) l

module _ {M N : Type 0} where
  -- either: as it stands where F and G are the NOW of the two below, and as new where they are the NEW
  abbrev pub either_fails : (M → List Sample → Bool) → (N → List Sample → Bool) → Either M N → List Sample → Bool
  either_fails F G m l = F m.first l && G m.second l

  -- a choice: as the one that it is, where F and G are likewise
  abbrev pub choice_fails : (M → List Sample → Bool) → (N → List Sample → Bool) → Choice M N → List Sample → Bool
  choice_fails F G (One m) l = F m l
  choice_fails F G (Other n) l = G n l
