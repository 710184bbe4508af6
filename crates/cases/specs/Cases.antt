-- The cases that the rules mark on either side of a bound, and when such a case comes out as it says.
use Rattle.std.specs.Prelude.{◌≡◌, ℕ, ◌+◌, ◌-◌, List, [], ◌∷◌, ◌++◌, length, replicate, Some, None, codes, Option}
use Rattle.std.proofs.Common.{lit<, lit≤}
use Rattle.std.specs.Option.{option_map}
use Rattle.std.specs.List.{AllByRecursion}
use Rattle.stream.specs.declared.signal.Signal.{Signal}
use Rattle.stream.specs.declared.numbered.Numbered.{Numbered}
use Rattle.stream.specs.Refusals.{number_of}
use Rattle.stream.specs.Sending.{sample_words}
use Rattle.stream.specs.Signals.{letter_signal}
use Rattle.stream.specs.Words.{Fed, unread, begin_refusal, numbered_from, feeding}
use Rattle.monitor.specs.declared.limit.Ticks.{Ticks}
use Rattle.monitor.specs.declared.pattern.Pattern.{Pattern}
use Rattle.monitor.specs.declared.pattern.Pattern.TheVariants.{Never, NeverFrom, HoldLeast, HoldUnder, Repeat, Answer, Keep}
use Rattle.grammar.specs.declared.tree.Line.{Line}
use Rattle.grammar.specs.Books.{IsBook}
use Rattle.watch.specs.Losses.{bare}
use Rattle.watch.specs.Falls.{FallsBy}
use Rattle.book.specs.Meaning.{ClauseFails}

-- a line of a book, as it is written and as a tree; the number at which a stream begins, and its words; and what is expected: how many
-- words are taken, the number of the refusal, if one is met, and the number at which the line is lost, if it is
pub record Case : Type 0 where
  pub text : List ℕ
  pub line : Line
  pub start : ℕ
  pub words : List ℕ
  pub taken : ℕ
  pub refusal : Option ℕ
  pub lost : Option ℕ

-- what becomes of the words
abbrev pub fed_by : Case → Fed
fed_by x = feeding (numbered_from unread x.start) x.words

-- the line is lost at n: the shortest opening on which it fails ends in the sample numbered n; or it stands: it does not fail
abbrev pub LostAt : Option ℕ → Line → List Numbered → Type 0
LostAt (Some n) line T = FallsBy 0 (ClauseFails line) T n
LostAt None line T = ClauseFails line (bare T) → ⊥

-- the text, with its line end, is the book of the line; the stream may begin so; and all that is expected holds
pub record ComesOut (x : Case) : Type 0 where
  pub book : IsBook (x.text ++ (10 ∷ [])) (x.line ∷ [])
  pub begins : begin_refusal unread x.start ≡ None
  pub taken : (fed_by x).count ≡ x.taken
  pub refusal : option_map number_of (fed_by x).refused ≡ x.refusal
  pub lost : LostAt x.lost x.line (fed_by x).samples

-- the letters of a sample, which are added, and the signals of these letters
abbrev pub none : ℕ
none = 0

abbrev pub a : ℕ
a = 1

abbrev pub b : ℕ
b = 2

abbrev pub c : ℕ
c = 4

abbrev pub on_a : Signal
on_a = letter_signal 0 (lit< tt)

abbrev pub on_b : Signal
on_b = letter_signal 1 (lit< tt)

abbrev pub on_c : Signal
on_c = letter_signal 2 (lit< tt)

abbrev pub five : Ticks
five = record { value = 5; small = lit≤ tt }

-- line 1 of one rule, with an after and an allow where they are said
abbrev pub ruled : Option Signal → Pattern → Option ℕ → Line
ruled trigger pattern allowed = record {
  number = record { value = 1; from = lit≤ tt; upto = lit≤ tt };
  first = record { after = trigger; pattern = pattern };
  second = None;
  allow = allowed;
}

abbrev pub never_a : List ℕ × Line
never_a = (codes "1 never a", ruled None (Never on_a) None)

-- the words by which samples are sent, each by its time and its letters, where the one before them was at the time `before`
abbrev pub sent : ℕ → List (ℕ × ℕ) → List ℕ
sent before [] = []
sent before ((time, letters) ∷ more) = sample_words (time - before) letters ++ sent time more

-- a line on samples numbered from `start`, all of which are taken
abbrev pub judged : List ℕ × Line → ℕ → List (ℕ × ℕ) → Option ℕ → Case
judged (text, line) start samples lost =
    record { text = text; line = line; start = start; words = sent 0 samples; taken = length (sent 0 samples); refusal = None; lost = lost }

-- either side of a bound: on the samples `stand` the line stands, and on the samples `fall` it is lost at n
abbrev pub bound : List ℕ × Line → List (ℕ × ℕ) → List (ℕ × ℕ) → ℕ → List Case
bound clause stand fall n = judged clause 1 stand None ∷ judged clause 1 fall (Some n) ∷ []

-- words without the letter a, of which so many are taken
abbrev pub streamed : ℕ → List ℕ → ℕ → Option ℕ → Case
streamed start words taken refusal =
    record { text = never_a.0; line = never_a.1; start = start; words = words; taken = taken; refusal = refusal; lost = None }

-- the seven rules, after and allow; the longest gap, and one tick more, GapTooLong; the last number, and one sample more, NumbersSpent; and
-- a number that sixteen bits do not hold
unfoldable pub marked : List Case
marked =
    bound never_a [] ((0, a) ∷ []) 1
    ++ bound (codes "1 never a from 5", ruled None (NeverFrom on_a five) None) ((0, a) ∷ (4, a) ∷ []) ((0, a) ∷ (4, a) ∷ (5, a) ∷ []) 3
    ++ bound (codes "1 hold a least 5", ruled None (HoldLeast on_a five) None) ((0, a) ∷ (5, none) ∷ []) ((0, a) ∷ (4, none) ∷ []) 2
    ++ bound (codes "1 hold a under 5", ruled None (HoldUnder on_a five) None) ((0, a) ∷ (2, none) ∷ (5, a) ∷ []) ((0, a) ∷ (5, a) ∷ []) 2
    ++ bound (codes "1 repeat a within 5", ruled None (Repeat on_a five) None) ((0, none) ∷ (5, a) ∷ []) ((0, none) ∷ (6, a) ∷ []) 2
    ++ bound (codes "1 answer a by b within 5", ruled None (Answer on_a on_b five) None) ((0, a) ∷ (5, b) ∷ []) ((0, a) ∷ (6, b) ∷ []) 2
    ++ bound (codes "1 keep b for 5 since a", ruled None (Keep on_b five on_a) None) ((0, a + b) ∷ (5, none) ∷ []) ((0, a + b) ∷ (4, none) ∷ []) 2
    ++ bound (codes "1 after c never a", ruled (Some on_c) (Never on_a) None) ((0, a) ∷ (1, none) ∷ []) ((0, a) ∷ (1, none) ∷ (2, a + c) ∷ []) 3
    ++ bound (codes "1 never a allow 1", ruled None (Never on_a) (Some 1)) ((0, a) ∷ []) ((0, a) ∷ (1, a) ∷ []) 2
    ++ streamed 1 (replicate 4 0x3FFFFFFF ++ 3 ∷ []) 5 None
    ∷ streamed 1 (replicate 4 0x3FFFFFFF ++ 4 ∷ []) 4 (Some 3)
    ∷ streamed 999999999999 (sent 0 ((0, none) ∷ [])) 1 None
    ∷ streamed 999999999999 (sent 0 ((0, none) ∷ (0, none) ∷ [])) 1 (Some 5)
    ∷ judged never_a 65535 ((0, none) ∷ (1, none) ∷ (2, a) ∷ []) (Some 65537)
    ∷ []

abbrev pub MarkedCases : Type 0
MarkedCases = AllByRecursion ComesOut marked
