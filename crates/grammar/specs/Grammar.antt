-- What a line of a book is: how each is spelled, and which is the first fault of a line that is none.
use Rattle.std.specs.Prelude.{◌≡◌, ℕ, ◌+◌, ◌-◌, ◌<◌, ◌≤◌, cond, List, [], ◌∷◌, ◌++◌, length, Some, None, codes, decimal, Option}
use Rattle.std.specs.Str.Parse.{digits_value}
use Rattle.stream.specs.declared.signal.Signal.{Signal}
use Rattle.stream.specs.declared.letter.Letter.{Letter}
use Rattle.monitor.specs.declared.pattern.Pattern.{Pattern}
use Rattle.monitor.specs.declared.pattern.Pattern.TheVariants.{Never, NeverFrom, HoldLeast, HoldUnder, Repeat, Answer, Keep}
use Rattle.grammar.specs.declared.tree.Term.{Term}
use Rattle.grammar.specs.declared.tree.Line.{Line}
use Rattle.grammar.specs.declared.fault.Cause.{Cause}
use Rattle.grammar.specs.declared.fault.Cause.TheVariants.{WordMissing, NumberOwed, WordNotAllowed}
use Rattle.grammar.specs.Words.{words_of, unwords}

-- `*`, or a letter from a on
abbrev pub source_byte : Option Letter → ℕ
source_byte None = 42
source_byte (Some l) = 97 + l.bit

-- the bare signal, with `!` before it where it is negated
abbrev pub signal_word : Signal → List ℕ
signal_word s = cond s.negated (33 ∷ source_byte s.letter ∷ []) (source_byte s.letter ∷ [])

-- the words of a rule's body
abbrev pub pattern_words : Pattern → List (List ℕ)
pattern_words (Never p) = codes "never" ∷ signal_word p ∷ []
pattern_words (NeverFrom p t) = codes "never" ∷ signal_word p ∷ codes "from" ∷ decimal t.value ∷ []
pattern_words (HoldLeast p t) = codes "hold" ∷ signal_word p ∷ codes "least" ∷ decimal t.value ∷ []
pattern_words (HoldUnder p t) = codes "hold" ∷ signal_word p ∷ codes "under" ∷ decimal t.value ∷ []
pattern_words (Repeat p t) = codes "repeat" ∷ signal_word p ∷ codes "within" ∷ decimal t.value ∷ []
pattern_words (Answer p s t) =
    codes "answer" ∷ signal_word p ∷ codes "by" ∷ signal_word s ∷ codes "within" ∷ decimal t.value ∷ []
pattern_words (Keep s t p) =
    codes "keep" ∷ signal_word s ∷ codes "for" ∷ decimal t.value ∷ codes "since" ∷ signal_word p ∷ []

-- the signal that a rule waits for
abbrev pub after_words : Option Signal → List (List ℕ)
after_words None = []
after_words (Some s) = codes "after" ∷ signal_word s ∷ []

-- a rule: the signal that it waits for, and its body
abbrev pub term_words : Term → List (List ℕ)
term_words t = after_words t.after ++ pattern_words t.pattern

-- the further rule
abbrev pub second_words : Option Term → List (List ℕ)
second_words None = []
second_words (Some t) = codes "or" ∷ term_words t

-- how many failures are allowed
abbrev pub allow_words : Option ℕ → List (List ℕ)
allow_words None = []
allow_words (Some n) = codes "allow" ∷ decimal n ∷ []

-- a line: its number, its rule, the further rule, and the allowance
abbrev pub line_words : Line → List (List ℕ)
line_words l =
    decimal l.number.value ∷ (term_words l.first ++ (second_words l.second ++ allow_words l.allow))

-- how a line is written
abbrev pub spell : Line → List ℕ
spell l = unwords (line_words l)

-- an allowance is at most 255
abbrev pub Allowed : Option ℕ → Type 0
Allowed None = Unit {0}
Allowed (Some n) = n ≤ 255

-- some line has these words
abbrev pub IsLine : List (List ℕ) → Type 0
IsLine ws = (l : Line) × (Allowed l.allow × (line_words l ≡ ws))

-- some line begins with these words
abbrev pub Begins : List (List ℕ) → Type 0
Begins ws = (l : Line) × (Allowed l.allow × ((more : List (List ℕ)) × (line_words l ≡ ws ++ more)))

-- why no line goes on after `pre` with what is left: the words are used up and one is owed; or the next word is not allowed, where a number is owed or none is
abbrev pub Because : List (List ℕ) → List (List ℕ) → Cause → Type 0
Because pre [] WordMissing = IsLine pre → ⊥
Because pre [] NumberOwed = ⊥
Because pre [] WordNotAllowed = ⊥
Because pre (w ∷ r) WordMissing = ⊥
Because pre (w ∷ r) NumberOwed = (Begins (pre ++ w ∷ []) → ⊥) × ((n : ℕ) × ((n ≤ 999999999) × Begins (pre ++ decimal n ∷ [])))
Because pre (w ∷ r) WordNotAllowed = (Begins (pre ++ w ∷ []) → ⊥) × ((n : ℕ) → n ≤ 999999999 → Begins (pre ++ decimal n ∷ []) → ⊥)

-- the clause number, where it is among the words, is above k
abbrev pub Above : ℕ → List (List ℕ) → Type 0
Above k [] = Unit {0}
Above k (w ∷ ws) = k < digits_value 10 w

-- a line's clause number is one, but not above k
pub record NotAbove (k : ℕ) (line : List ℕ) : Type 0 where
  pub first : List ℕ
  pub rest : List (List ℕ)
  pub words : words_of line ≡ first ∷ rest
  pub begins : Begins (first ∷ [])
  pub low : digits_value 10 first ≤ k

-- the first word with which no line begins, or the end where no line ends; it is `place` bytes behind the line's first
pub record FirstFault (k : ℕ) (line : List ℕ) (cause : Cause) (place : ℕ) : Type 0 where
  pub pre : List (List ℕ)
  pub rest : List (List ℕ)
  pub words : words_of line ≡ pre ++ rest
  pub begins : Begins pre
  pub above : Above k pre
  pub because : Because pre rest cause
  pub place_is : place ≡ length line - length (unwords rest)
