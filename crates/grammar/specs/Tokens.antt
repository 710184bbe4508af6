-- How a word is read as a keyword or a signal, and what a token says of its word.
use Rattle.std.specs.Prelude.{◌≡◌, ℕ, ◌-◌, ◌%◌, Bool, true, false, cond, ◌&&◌, List, [], ◌∷◌, Some, None, codes, Option, ◌==◌, nat_le}
use Rattle.std.proofs.Common.{mod-lt, lit<}
use Rattle.std.specs.Str.{bytes_eq}
use Rattle.stream.specs.declared.signal.Signal.{Signal}
use Rattle.stream.specs.Signals.{every_signal, letter_signal, negated_signal}
use Rattle.grammar.specs.declared.token.Keyword.{Keyword}
use Rattle.grammar.specs.declared.token.Keyword.TheVariants as K
use Rattle.grammar.specs.declared.token.Token.{Token}
use Rattle.grammar.specs.declared.token.Token.TheVariants as T
use Rattle.grammar.specs.Numbers.{well_formed}

-- how a keyword is written
abbrev pub key_word : Keyword → List ℕ
key_word K.After = codes "after"
key_word K.Never = codes "never"
key_word K.From = codes "from"
key_word K.Hold = codes "hold"
key_word K.Least = codes "least"
key_word K.Under = codes "under"
key_word K.Repeat = codes "repeat"
key_word K.Within = codes "within"
key_word K.Answer = codes "answer"
key_word K.By = codes "by"
key_word K.Keep = codes "keep"
key_word K.For = codes "for"
key_word K.Since = codes "since"
key_word K.Or = codes "or"
key_word K.Allow = codes "allow"

-- keywords by their order
abbrev pub index_of : Keyword → ℕ
index_of K.After = 0
index_of K.Never = 1
index_of K.From = 2
index_of K.Hold = 3
index_of K.Least = 4
index_of K.Under = 5
index_of K.Repeat = 6
index_of K.Within = 7
index_of K.Answer = 8
index_of K.By = 9
index_of K.Keep = 10
index_of K.For = 11
index_of K.Since = 12
index_of K.Or = 13
index_of K.Allow = 14

-- whether two keywords are the same
abbrev pub same_key : Keyword → Keyword → Bool
same_key j k = index_of j == index_of k

-- the first of some keywords that a word is
abbrev pub first_key : List ℕ → List Keyword → Option Keyword
first_key w [] = None
first_key w (k ∷ ks) = cond (bytes_eq w (key_word k)) (Some k) (first_key w ks)

-- all of them
abbrev pub keywords : List Keyword
keywords =
    K.After ∷ K.Never ∷ K.From ∷ K.Hold ∷ K.Least ∷ K.Under ∷ K.Repeat ∷ K.Within ∷ K.Answer ∷ K.By ∷ K.Keep ∷ K.For ∷ K.Since ∷ K.Or ∷ K.Allow ∷ []

-- the keyword that a word is
unfoldable pub keyword_of : List ℕ → Option Keyword
keyword_of w = first_key w keywords

-- the letter of a byte from a to x
abbrev pub letter_of : ℕ → Signal
letter_of b = letter_signal ((b - 97) % 24) (mod-lt (b - 97) (lit< tt))

-- the signal of one byte: `*`, or a letter from a to x
abbrev pub bare_of : ℕ → Option Signal
bare_of b = cond (b == 42) (Some every_signal) (cond (nat_le 97 b && nat_le b 120) (Some (letter_of b)) None)

-- the signal with `!` before it
abbrev pub marked_of : Option Signal → Option Signal
marked_of None = None
marked_of (Some s) = Some (negated_signal s)

-- the signal that a word is
abbrev pub signal_of : List ℕ → Option Signal
signal_of [] = None
signal_of (b ∷ []) = bare_of b
signal_of (n ∷ b ∷ []) = cond (n == 33) (marked_of (bare_of b)) None
signal_of (n ∷ b ∷ c ∷ cs) = None

-- the word of a token
abbrev pub token_text : Token → List ℕ
token_text (T.Keyword k w) = w.now
token_text (T.Signal s w) = w.now
token_text (T.Number w) = w.now
token_text (T.Other w) = w.now

-- what a token says of its word
abbrev pub TokenIs : Token → Type 0
TokenIs (T.Keyword k w) = (keyword_of w.now ≡ Some k) × ((signal_of w.now ≡ None) × (well_formed w.now ≡ false))
TokenIs (T.Signal s w) = (keyword_of w.now ≡ None) × ((signal_of w.now ≡ Some s) × (well_formed w.now ≡ false))
TokenIs (T.Number w) = (keyword_of w.now ≡ None) × ((signal_of w.now ≡ None) × (well_formed w.now ≡ true))
TokenIs (T.Other w) = (keyword_of w.now ≡ None) × ((signal_of w.now ≡ None) × (well_formed w.now ≡ false))
