-- Which book is that of some lines.
use Rattle.std.specs.Prelude.{◌≡◌, ℕ, List, length, IsSomeAnd, Decides, Option}
use Rattle.std.specs.Option.{option_map}
use Rattle.stream.specs.declared.sample.Sample.{Sample}
use Rattle.grammar.specs.declared.tree.Line.{Line}
use Rattle.book.specs.declared.book.Book.{Book}
use Rattle.book.specs.Meaning.{ClauseFails}
use Rattle.book.specs.Seating.{at_seat, book_meaning, number_at}

-- seat k is line k, and what that line says fails on the list
abbrev pub SeatFails : List Line → ℕ → List Sample → Type 0
SeatFails ls k l = IsSomeAnd (at_seat ls k) (λ line. ClauseFails line l)

-- the clause number of line k
abbrev pub said_number : List Line → ℕ → Option ℕ
said_number ls k = option_map (λ line. line.number.value) (at_seat ls k)

-- the book of these lines, before any sample: a seat for each, lost where its line says so, with its line's number
pub record Holds (b : Book) (ls : List Line) : Type 0 where
  pub seats : (book_meaning b).count ≡ length ls
  pub meaning : (l : List Sample) (k : ℕ) → Decides ((book_meaning b).lost l k) (SeatFails ls k l)
  pub numbers : (k : ℕ) → number_at b k ≡ said_number ls k
