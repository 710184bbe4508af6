-- What the bytes of a trace come to.
use Rattle.std.specs.Prelude.{ℕ, ◌+◌, ◌*◌, ◌^◌, List, [], ◌∷◌}
use Rattle.stream.specs.Words.{Fed, unread, feeding}

-- the word of four bytes, the high byte first
abbrev pub word_of : ℕ → ℕ → ℕ → ℕ → ℕ
word_of a b c d = a * 2 ^ 24 + b * 2 ^ 16 + c * 2 ^ 8 + d

-- the whole words of a trace, four bytes each
abbrev pub words_in : List ℕ → List ℕ
words_in [] = []
words_in (a ∷ []) = []
words_in (a ∷ b ∷ []) = []
words_in (a ∷ b ∷ c ∷ []) = []
words_in (a ∷ b ∷ c ∷ d ∷ rest) = word_of a b c d ∷ words_in rest

-- the bytes that are left over behind them
abbrev pub left_in : List ℕ → List ℕ
left_in [] = []
left_in (a ∷ []) = a ∷ []
left_in (a ∷ b ∷ []) = a ∷ b ∷ []
left_in (a ∷ b ∷ c ∷ []) = a ∷ b ∷ c ∷ []
left_in (a ∷ b ∷ c ∷ d ∷ rest) = left_in rest

-- what becomes of its words, from the first
abbrev pub fed_by : List ℕ → Fed
fed_by bytes = feeding unread (words_in bytes)
