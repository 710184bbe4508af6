-- Words in pieces.
use Rattle.std.specs.Prelude.{ℕ, List, [], ◌∷◌, ◌++◌}
use Rattle.std.specs.Borrow.{Bor}

-- what stands in lent pieces
abbrev pub contents : List (Bor (List ℕ)) → List (List ℕ)
contents [] = []
contents (p ∷ ps) = p.now ∷ contents ps

-- pieces put together
abbrev pub joined : List (List ℕ) → List ℕ
joined [] = []
joined (p ∷ ps) = p ++ joined ps

-- the words of all lent pieces
abbrev pub words : List (Bor (List ℕ)) → List ℕ
words ps = joined (contents ps)
