-- Lines and words of a text.
use Rattle.std.specs.Prelude.{ℕ, cond, List, [], ◌∷◌, length, drop, ◌==◌, nat_le, count_by}
use Rattle.std.specs.List.{slice_split, join_with_byte}

-- what stands before the first c, or all
abbrev pub up_to : ℕ → List ℕ → List ℕ
up_to c [] = []
up_to c (b ∷ bs) = cond (b == c) [] (b ∷ up_to c bs)

-- how many bytes 0x0A, the ends of lines, a text has
abbrev pub line_ends : List ℕ → ℕ
line_ends text = count_by (λ b. b == 10) text

-- a line's words: it is cut at each space, so that an empty line is one empty word
abbrev pub words_of : List ℕ → List (List ℕ)
words_of line = slice_split (λ b. b == 32) line

-- words with a space between each two
abbrev pub unwords : List (List ℕ) → List ℕ
unwords ws = join_with_byte 32 ws

-- the words from a place on; past the line's end there is none
abbrev pub left : List ℕ → ℕ → List (List ℕ)
left line at = cond (nat_le at (length line)) (words_of (drop at line)) []
