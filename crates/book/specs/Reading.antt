-- What reading a text comes to.
use Rattle.std.specs.Prelude.{◌≡◌, ℕ, List, Ok, Err, Result}
use Rattle.grammar.specs.declared.tree.Line.{Line}
use Rattle.grammar.specs.declared.fault.Fault.{Fault}
use Rattle.grammar.specs.Books.{IsBook, BookFault}
use Rattle.book.specs.declared.book.Book.{Book}
use Rattle.book.specs.Books.{Holds}

-- the text is a book's, and the book is then that of its lines; or the text has this fault, and the book is as before
abbrev pub Reads : List ℕ → Book → Result (Unit {0}) Fault → Book → Type 0
Reads text before (Ok done) after = (ls : List Line) × IsBook text ls × Holds after ls
Reads text before (Err f) after = BookFault text f × (after ≡ before)

-- the text of these lines is accepted, and the book is theirs
abbrev pub HoldsRead : List Line → Result (Unit {0}) Fault → Book → Type 0
HoldsRead ls (Ok done) after = Holds after ls
HoldsRead ls (Err f) after = ⊥
