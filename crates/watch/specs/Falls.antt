-- At which number a seat is lost.
use Rattle.std.specs.Prelude.{◌≡◌, ℕ, Bool, true, false, cond, List, [], ◌∷◌, ◌++◌, Some, None, Option}
use Rattle.stream.specs.declared.sample.Sample.{Sample}
use Rattle.stream.specs.declared.numbered.Numbered.{Numbered}
use Rattle.watch.specs.Losses.{bare, number_by}

-- the number of the last sample, or m if there is none
abbrev pub last_or : ℕ → List Numbered → ℕ
last_or m [] = m
last_or m (x ∷ xs) = last_or x.number xs

-- on the samples T, what fails by the predicate P, as by a sentence, is lost at n: `front` is the shortest opening that fails, and n is
-- the number of its last sample, or m if it is empty
pub record FallsBy (m : ℕ) (P : List Sample → Type 0) (T : List Numbered) (n : ℕ) : Type 0 where
  pub front : List Numbered
  pub rest : List Numbered
  pub splits : T ≡ front ++ rest
  pub fails : P (bare front)
  pub shortest : (X Y : List Numbered) → front ≡ X ++ Y → P (bare X) → Y ≡ []
  pub number : n ≡ last_or m front

-- the same of seat k, where F says which seats are lost on a list
abbrev pub FallsFrom : ℕ → (List Sample → ℕ → Bool) → List Numbered → ℕ → ℕ → Type 0
FallsFrom m F T k n = FallsBy m (λ l. F l k ≡ true) T n

abbrev pub Falls : (List Sample → ℕ → Bool) → List Numbered → ℕ → ℕ → Type 0
Falls F T k n = FallsFrom 0 F T k n

-- a seat that is lost on a list is lost on each that begins with it
abbrev pub Lasting : (List Sample → ℕ → Bool) → Type 0
Lasting F = (l h : List Sample) (k : ℕ) → F l k ≡ true → F (l ++ h) k ≡ true

-- the number of seat k after the samples T, from a making on
abbrev pub number_on : ℕ → (List Sample → ℕ → Bool) → List Numbered → ℕ → Option ℕ
number_on m F T k = number_by F k (cond (F [] k) (Some m) None) T

-- a seat has a number exactly where it falls, at that number, and has none exactly where it is not lost
pub record NumberedRight (F : List Sample → ℕ → Bool) (T : List Numbered) (k : ℕ) : Type 0 where
  pub falls : (n : ℕ) → number_on 0 F T k ≡ Some n → Falls F T k n
  pub number : (n : ℕ) → Falls F T k n → number_on 0 F T k ≡ Some n
  pub stands : number_on 0 F T k ≡ None → F (bare T) k ≡ false
  pub safe : F (bare T) k ≡ false → number_on 0 F T k ≡ None

abbrev pub NumbersRight : Type 0
NumbersRight = (F : List Sample → ℕ → Bool) → Lasting F → (T : List Numbered) (k : ℕ) → NumberedRight F T k
