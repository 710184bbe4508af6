-- Words as bytes, the high byte first.
use Rattle.std.specs.Prelude.{ℕ, ◌/◌, ◌%◌, ◌^◌, List, [], ◌∷◌, Some, None, Ok, Err, Option, Result}
use Rattle.stream.specs.declared.refusal.Refusal.{Refusal}
use Rattle.stream.specs.declared.refusal.Refusal.TheVariants.{PartialWord}
use Rattle.stream.specs.declared.assembler.Assembler.{Assembler}
use Rattle.stream.specs.declared.assembler.Assembler.TheVariants.{Empty, One, Two, Three}

-- the bytes of the word that is not whole yet
abbrev pub held_by : Assembler → List ℕ
held_by Empty = []
held_by (One a) = a ∷ []
held_by (Two a b) = a ∷ b ∷ []
held_by (Three a b c) = a ∷ b ∷ c ∷ []

-- the bytes of a word, if there is one
abbrev pub bytes_of : Option ℕ → List ℕ
bytes_of None = []
bytes_of (Some w) = w / 2 ^ 24 ∷ w / 2 ^ 16 % 256 ∷ w / 2 ^ 8 % 256 ∷ w % 256 ∷ []

-- what is answered at the end, where these bytes are left over
abbrev pub finish_by : List ℕ → Result (Unit {0}) Refusal
finish_by [] = Ok tt
finish_by (b ∷ bs) = Err PartialWord
