use Rattle.std.proofs.Common.{◌≡◌, length, take}
use Rattle.std.specs.List.{AllZip}
use Rattle.book.specs.Clauses.{Says}
use Rattle.book.proofs.book.Book.of.Given as goal

abbrev pub invariant-loop-line : goal.invariant-loop-line
invariant-loop-line l = (length l.clauses.items ≡ l.line-index) × AllZip Says (take l.line-index l.lines) l.clauses.items
