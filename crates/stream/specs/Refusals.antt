-- The number of each refusal, and which of several is given.
use Rattle.std.specs.Prelude.{ℕ, Bool, cond, List, [], ◌∷◌, Some, None, Option}
use Rattle.stream.specs.declared.refusal.Refusal.{Refusal}
use Rattle.stream.specs.declared.refusal.Refusal.TheVariants.{StreamEnded, UnusedKind, GapTooLong, HighLetter, NumbersSpent, EndPayload, GapAtEnd, WordTaken, BadStart, NothingWaits, ListTooShort, PartialWord, UnreadableFile, NoSuchLine, HighSignal, HighLimit, EmptyText, TextTooLong, OpenLine, WordNotAllowed, WordMissing, NumberOwed, NumberNotRising, TooManyLines}

abbrev pub number_of : Refusal → ℕ
number_of StreamEnded = 1
number_of UnusedKind = 2
number_of GapTooLong = 3
number_of HighLetter = 4
number_of NumbersSpent = 5
number_of EndPayload = 6
number_of GapAtEnd = 7
number_of WordTaken = 8
number_of BadStart = 9
number_of NothingWaits = 10
number_of ListTooShort = 11
number_of PartialWord = 12
number_of UnreadableFile = 13
number_of NoSuchLine = 14
number_of HighSignal = 15
number_of HighLimit = 16
number_of EmptyText = 21
number_of TextTooLong = 22
number_of OpenLine = 23
number_of WordNotAllowed = 24
number_of WordMissing = 25
number_of NumberOwed = 26
number_of NumberNotRising = 27
number_of TooManyLines = 28

-- a check that gives r where it fails
abbrev pub when : Bool → Refusal → Option Refusal
when fails r = cond fails (Some r) None

-- of several checks, in their order, the first that fails gives its refusal
abbrev pub first_of : List (Option Refusal) → Option Refusal
first_of [] = None
first_of (Some r ∷ rest) = Some r
first_of (None ∷ rest) = first_of rest
