-- A sample as a readable line: `5 ab`, or `0 -` where no letter holds.
use Rattle.std.specs.Prelude.{◌≡◌, ℕ, zero, suc, ◌+◌, ◌/◌, ◌%◌, ◌<◌, ◌≤◌, cond, List, [], ◌∷◌, ◌++◌, length, take, decimal, Result, MatchResult, ◌==◌, ◌≢◌}
use Rattle.std.specs.List.{flat_map}
use Rattle.stream.specs.declared.sample.Sample.{Sample}
use Rattle.rows.specs.declared.slip.Slip.{Slip}

-- of n letters in alphabetical order, the first of which is `letter`, those whose bits are set, the lowest bit first
unfoldable pub letters_in : ℕ → ℕ → ℕ → List ℕ
letters_in zero letter bits = []
letters_in (suc n) letter bits = cond (bits % 2 == 1) (letter ∷ []) [] ++ letters_in n (letter + 1) (bits / 2)

-- the letters a to x, or `-` for none
abbrev pub letters_text : ℕ → List ℕ
letters_text bits = cond (bits == 0) (45 ∷ []) (letters_in 24 97 bits)

-- the gap in base ten, one space, the letters
abbrev pub row_text : Sample → List ℕ
row_text s = decimal s.gap ++ (32 ∷ letters_text s.letters)

-- samples as a text: a row for each, ended by the byte 10
abbrev pub text_of : List Sample → List ℕ
text_of ss = flat_map (λ s. row_text s ++ (10 ∷ [])) ss

-- the text of a value begins so
pub record Begins {V : Type 0} (written : V → List ℕ) (front : List ℕ) : Type 0 where
  pub value : V
  pub rest : List ℕ
  pub is : written value ≡ front ++ rest

-- a text is that of none: up to the column it begins as one does, and with one byte more as none does
pub record NoneReads {V : Type 0} (written : V → List ℕ) (text : List ℕ) (column : ℕ) : Type 0 where
  pub within : column ≤ length text
  pub none : (v : V) → text ≢ written v
  pub begins : Begins written (take column text)
  pub stops : column < length text → Begins written (take (column + 1) text) → ⊥

-- the numbers below `top`
abbrev pub Below : ℕ → Type 0
Below top = (n : ℕ) × (n < top)

-- a text was read: as the number below `top` that is written so, or not, since it is the text of none
abbrev pub ReadBelow : ℕ → (ℕ → List ℕ) → List ℕ → Result ℕ Slip → Type 0
ReadBelow top written text r = MatchResult r (λ n. (n < top) × (text ≡ written n)) (λ e. NoneReads {V = Below top} (λ n. written n.0) text e.column)

-- a line was read: as the sample whose row it is, or not, since it is the row of none
abbrev pub NoRow : List ℕ → Slip → Type 0
NoRow line e = NoneReads row_text line e.column

abbrev pub ReadRow : List ℕ → Result Sample Slip → Type 0
ReadRow line r = MatchResult r (λ s. line ≡ row_text s) (NoRow line)
