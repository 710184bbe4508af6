-- Words and bytes left over, where a trace goes on.
use Rattle.std.proofs.Common.{◌≡◌, ℕ, ◌/◌, ◌%◌, ◌^◌, List, [], ◌∷◌, ◌++◌, Some, refl, ap, ◌∙◌, arith}
use Rattle.stream.specs.declared.assembler.Assembler.{Assembler}
use Rattle.stream.specs.declared.assembler.Assembler.TheVariants.{Empty, One, Two, Three}
use Rattle.stream.specs.Bytes.{held_by, bytes_of}
use Rattle.stream.specs.Traces.{word_of, words_in, left_in}

-- the bytes that follow join those left over
pub words_on : (xs ys : List ℕ) → words_in (xs ++ ys) ≡ words_in xs ++ words_in (left_in xs ++ ys)
words_on [] ys = refl
words_on (a ∷ []) ys = refl
words_on (a ∷ b ∷ []) ys = refl
words_on (a ∷ b ∷ c ∷ []) ys = refl
words_on (a ∷ b ∷ c ∷ d ∷ xs) ys = ap (λ (ws : List ℕ). word_of a b c d ∷ ws) (words_on xs ys)

pub left_on : (xs ys : List ℕ) → left_in (xs ++ ys) ≡ left_in (left_in xs ++ ys)
left_on [] ys = refl
left_on (a ∷ []) ys = refl
left_on (a ∷ b ∷ []) ys = refl
left_on (a ∷ b ∷ c ∷ []) ys = refl
left_on (a ∷ b ∷ c ∷ d ∷ xs) ys = left_on xs ys

-- what is held makes no word, and is all left over
pub held_words : (h : Assembler) → words_in (held_by h) ≡ []
held_words Empty = refl
held_words (One a) = refl
held_words (Two a b) = refl
held_words (Three a b c) = refl

pub held_left : (h : Assembler) → left_in (held_by h) ≡ held_by h
held_left Empty = refl
held_left (One a) = refl
held_left (Two a b) = refl
held_left (Three a b c) = refl

-- the four bytes of a word make it
bytes_word : (w : ℕ) → word_of (w / 2 ^ 24) (w / 2 ^ 16 % 256) (w / 2 ^ 8 % 256) (w % 256) ≡ w
bytes_word w = omega arith

pub word_whole : (w : ℕ) (h : Assembler) → words_in (bytes_of (Some w) ++ held_by h) ≡ w ∷ []
word_whole w h = ap (λ (ws : List ℕ). word_of (w / 2 ^ 24) (w / 2 ^ 16 % 256) (w / 2 ^ 8 % 256) (w % 256) ∷ ws) (held_words h) ∙ ap (λ (v : ℕ). v ∷ []) (bytes_word w)
