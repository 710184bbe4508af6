-- What a fault tells: its refusal, its layer, and its place, the lines counted from 1 and the bytes from 0.
use Rattle.std.specs.Prelude.{ℕ}
use Rattle.stream.specs.declared.refusal.Refusal.{Refusal}
use Rattle.stream.specs.declared.refusal.Refusal.TheVariants as R
use Rattle.grammar.specs.declared.fault.Fault.{Fault}
use Rattle.grammar.specs.declared.fault.Fault.TheVariants.{EmptyText, TextTooLong, OpenLine, TooManyLines, NumberNotRising, AtWord}
use Rattle.grammar.specs.declared.fault.Cause.TheVariants as C
use Rattle.grammar.specs.declared.fault.Layer.{Layer}
use Rattle.grammar.specs.declared.fault.Layer.TheVariants.{Text, Line, Book}

-- why the text is refused; the refusal has its number from the crate `stream`
abbrev pub refusal_of : Fault → Refusal
refusal_of EmptyText = R.EmptyText
refusal_of TextTooLong = R.TextTooLong
refusal_of (OpenLine p) = R.OpenLine
refusal_of (TooManyLines b) = R.TooManyLines
refusal_of (NumberNotRising p) = R.NumberNotRising
refusal_of (AtWord C.WordMissing p) = R.WordMissing
refusal_of (AtWord C.NumberOwed p) = R.NumberOwed
refusal_of (AtWord C.WordNotAllowed p) = R.WordNotAllowed

-- a fault is in the text as a whole, in a line, or in the book as a whole
abbrev pub layer_of : Fault → Layer
layer_of EmptyText = Text
layer_of TextTooLong = Text
layer_of (OpenLine p) = Text
layer_of (TooManyLines b) = Book
layer_of (NumberNotRising p) = Book
layer_of (AtWord c p) = Line

-- a line too many is always the sixty-fifth
abbrev pub line_number_of : Fault → ℕ
line_number_of EmptyText = 1
line_number_of TextTooLong = 1
line_number_of (OpenLine p) = p.line
line_number_of (TooManyLines b) = 65
line_number_of (NumberNotRising p) = p.line
line_number_of (AtWord c p) = p.line

-- an empty text is refused at its beginning, and one that is too long behind its byte 8,191
abbrev pub byte_of : Fault → ℕ
byte_of EmptyText = 0
byte_of TextTooLong = 8192
byte_of (OpenLine p) = p.byte
byte_of (TooManyLines b) = b
byte_of (NumberNotRising p) = p.byte
byte_of (AtWord c p) = p.byte
