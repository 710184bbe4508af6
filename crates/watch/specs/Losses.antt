-- The numbers at which seats are lost.
use Rattle.std.specs.Prelude.{ℕ, Bool, cond, List, [], ◌∷◌, Some, None, Option}
use Rattle.stream.specs.declared.sample.Sample.{Sample}
use Rattle.stream.specs.declared.numbered.Numbered.{Numbered}

-- samples without their numbers
abbrev pub bare : List Numbered → List Sample
bare [] = []
bare (x ∷ xs) = x.sample ∷ bare xs

-- a seat that has a number keeps it
abbrev pub kept_or : Option ℕ → Option ℕ → Option ℕ
kept_or (Some n) later = Some n
kept_or None later = later

-- the number of seat k after some samples, where F says which seats are lost on a list
unfoldable pub number_by : (List Sample → ℕ → Bool) → ℕ → Option ℕ → List Numbered → Option ℕ
number_by F k old [] = old
number_by F k old (x ∷ xs) = number_by (λ l. F (x.sample ∷ l)) k (kept_or old (cond (F (x.sample ∷ []) k) (Some x.number) None)) xs
