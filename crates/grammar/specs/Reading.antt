-- How words are read, one after another. By this the pages Bodies and Lines say how a line is read, and where the same is promised in other words.
use Rattle.std.specs.Prelude.{ℕ, ◌-◌, Bool, true, false, cond, List, [], ◌∷◌, length, Some, None, Ok, Err, Option, Result}
use Rattle.stream.specs.declared.signal.Signal.{Signal}
use Rattle.monitor.specs.declared.limit.Ticks.{Ticks}
use Rattle.grammar.specs.declared.clause.ClauseNumber.{ClauseNumber}
use Rattle.grammar.specs.declared.fault.Cause.{Cause}
use Rattle.grammar.specs.declared.fault.Cause.TheVariants.{WordMissing, NumberOwed, WordNotAllowed}
use Rattle.grammar.specs.declared.snag.Snag.{Snag}
use Rattle.grammar.specs.declared.token.Keyword.{Keyword}
use Rattle.grammar.specs.Words.{unwords}
use Rattle.grammar.specs.Numbers.{number_of, ticks_of, clause_of}
use Rattle.grammar.specs.Tokens.{same_key, keyword_of, signal_of}

-- words
abbrev pub Ws : Type 0
Ws = List (List ℕ)

-- what reading gives: a value and the words left, or a cause and how many bytes are left from its place on
pub data Read (X : Type 0) : Type 0 where
  got : X → Ws → Read X
  bad : Cause → ℕ → Read X

-- one reading, and then another by its value
abbrev pub and_then : {X Y : Type 0} → Read X → (X → Ws → Read Y) → Read Y
and_then (got x rest) f = f x rest
and_then (bad c m) f = bad c m

-- no word is taken
abbrev pub gives : {X : Type 0} → X → Ws → Read X
gives x rest = got x rest

-- a value made of another; no word is taken
abbrev pub made : {X Y : Type 0} → (X → Y) → X → Ws → Read Y
made f x rest = got (f x) rest

-- no word is allowed here
abbrev pub refuse : {X : Type 0} → Ws → Read X
refuse [] = bad WordMissing 0
refuse (w ∷ ws) = bad WordNotAllowed (length (unwords (w ∷ ws)))

-- the value, or the cause at this word
abbrev pub or_bad : {X : Type 0} → Cause → Ws → Ws → Option X → Read X
or_bad c all rest (Some x) = got x rest
or_bad c all rest None = bad c (length (unwords all))

-- one word, which a test takes or refuses
abbrev pub one : {X : Type 0} → Cause → (List ℕ → Option X) → Ws → Read X
one c f [] = bad WordMissing 0
one c f (w ∷ ws) = or_bad c (w ∷ ws) ws (f w)

-- a number from low to high
abbrev pub read_number : ℕ → ℕ → Ws → Read ℕ
read_number low high = one NumberOwed (number_of low high)

-- a time limit
abbrev pub read_ticks : Ws → Read Ticks
read_ticks ws = and_then (read_number 0 999999999 ws) (made ticks_of)

-- a clause number
abbrev pub read_clause : Ws → Read ClauseNumber
read_clause ws = and_then (read_number 1 9999 ws) (made clause_of)

-- a signal
abbrev pub read_signal : Ws → Read Signal
read_signal = one WordNotAllowed signal_of

-- whether a word that was read so is this keyword
abbrev pub is_key : Keyword → Option Keyword → Bool
is_key k None = false
is_key k (Some j) = same_key j k

-- whether the next word is this keyword
abbrev pub starts_by : Keyword → Ws → Bool
starts_by k [] = false
starts_by k (w ∷ ws) = is_key k (keyword_of w)

-- all words but the first
abbrev pub rest_of : Ws → Ws
rest_of [] = []
rest_of (w ∷ ws) = ws

-- whether no word is left
abbrev pub none_left : Ws → Bool
none_left [] = true
none_left (w ∷ ws) = false

-- a choice by the next word
abbrev pub if_next : {X : Type 0} → Keyword → (Ws → Read X) → (Ws → Read X) → Ws → Read X
if_next k a b ws = cond (starts_by k ws) (a (rest_of ws)) (b ws)

-- a keyword that is owed
abbrev pub read_key : Keyword → Ws → Read (Unit {0})
read_key k = if_next k (gives tt) refuse

-- what a call answered, as reading: `after` is what it left
abbrev pub outcome : {X : Type 0} → ℕ → Ws → Result X Snag → Read X
outcome len after (Ok x) = got x after
outcome len after (Err f) = bad f.cause (len - f.place)
