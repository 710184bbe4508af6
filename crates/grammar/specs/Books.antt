-- What a book's text is, and the fault of a text that is none.
use Rattle.std.specs.Prelude.{◌≡◌, ℕ, ◌+◌, ◌-◌, ◌<◌, ◌≤◌, List, [], ◌∷◌, ◌++◌, length, slice_index_or}
use Rattle.grammar.specs.declared.tree.Line.{Line}
use Rattle.grammar.specs.declared.fault.Place.{Place}
use Rattle.grammar.specs.declared.fault.Fault.{Fault}
use Rattle.grammar.specs.declared.fault.Fault.TheVariants.{EmptyText, TextTooLong, OpenLine, TooManyLines, NumberNotRising, AtWord}
use Rattle.grammar.specs.Words.{up_to, line_ends}
use Rattle.grammar.specs.Grammar.{Allowed, spell, NotAbove, FirstFault}

-- each line, ended by 0x0A
abbrev pub book_text : List Line → List ℕ
book_text [] = []
book_text (l ∷ ls) = spell l ++ (10 ∷ book_text ls)

-- each line's number is above k and those before it, and its allowance fits
abbrev pub Rising : ℕ → List Line → Type 0
Rising k [] = Unit {0}
Rising k (l ∷ ls) = Allowed l.allow × ((k < l.number.value) × Rising l.number.value ls)

-- the last number, or k if there is none
abbrev pub last_from : ℕ → List Line → ℕ
last_from k [] = k
last_from k (l ∷ ls) = last_from l.number.value ls

-- the text is the spelling of these lines, 1 to 64 of them, whose numbers rise
pub record IsBook (text : List ℕ) (ls : List Line) : Type 0 where
  pub spelled : text ≡ book_text ls
  pub rising : Rising 0 ls
  pub some : 1 ≤ length ls
  pub few : length ls ≤ 64
  pub short : length text ≤ 8192

-- a text that is neither empty nor too long, and whose last byte is 0x0A
pub record Ended (text : List ℕ) : Type 0 where
  pub some : 0 < length text
  pub short : length text ≤ 8192
  pub ended : slice_index_or text (length text - 1) 0 ≡ 10

-- such a text begins with the lines of a book, and this one comes next
pub record Next (text : List ℕ) (before : List Line) (line after : List ℕ) : Type 0 where
  pub whole_text : Ended text
  pub rising : Rising 0 before
  pub room : length before < 64
  pub split : text ≡ book_text before ++ (line ++ (10 ∷ after))
  pub whole : up_to 10 line ≡ line

-- such a text begins with the lines of a full book, and goes on
pub record TooMany (text : List ℕ) (byte : ℕ) : Type 0 where
  pub whole_text : Ended text
  pub before : List Line
  pub after : List ℕ
  pub rising : Rising 0 before
  pub full : length before ≡ 64
  pub split : text ≡ book_text before ++ after
  pub more : 0 < length after
  pub byte_is : byte ≡ length (book_text before)

-- the last byte of a text that is neither empty nor too long is another than 0x0A
pub record Unended (text : List ℕ) (place : Place) : Type 0 where
  pub some : 0 < length text
  pub short : length text ≤ 8192
  pub last : slice_index_or text (length text - 1) 0 ≡ 10 → ⊥
  pub line_is : place.line ≡ line_ends text + 1
  pub byte_is : place.byte ≡ length text

-- where the line behind these lines begins
abbrev pub start_behind : List Line → Place
start_behind ls = record { line = length ls + 1; byte = length (book_text ls) }

-- so many bytes further in a line
abbrev pub further : Place → ℕ → Place
further start n = record { line = start.line; byte = start.byte + n }

-- the first fault of one line, which begins at `start` and follows a line with number k
abbrev pub LineFault : ℕ → List ℕ → Place → Fault → Type 0
LineFault k line start EmptyText = ⊥
LineFault k line start TextTooLong = ⊥
LineFault k line start (OpenLine p) = ⊥
LineFault k line start (TooManyLines b) = ⊥
LineFault k line start (NumberNotRising p) = (p ≡ start) × NotAbove k line
LineFault k line start (AtWord c p) = (n : ℕ) × ((p ≡ further start n) × FirstFault k line c n)

-- the first line that is none, and its fault
pub record InLine (text : List ℕ) (f : Fault) : Type 0 where
  pub before : List Line
  pub line : List ℕ
  pub after : List ℕ
  pub next : Next text before line after
  pub fault : LineFault (last_from 0 before) line (start_behind before) f

-- the fault of a text
abbrev pub BookFault : List ℕ → Fault → Type 0
BookFault text EmptyText = text ≡ []
BookFault text TextTooLong = 8192 < length text
BookFault text (OpenLine p) = Unended text p
BookFault text (TooManyLines b) = TooMany text b
BookFault text (NumberNotRising p) = InLine text (NumberNotRising p)
BookFault text (AtWord c p) = InLine text (AtWord c p)

-- a text with a fault is no book, and has no other fault
pub record IsOneFault (text : List ℕ) (f : Fault) : Type 0 where
  pub none : (ls : List Line) → IsBook text ls → ⊥
  pub other : (g : Fault) → BookFault text g → g ≡ f
