-- What holds of every story of a watch on a newly read book, in the words of its lines.
use Rattle.std.specs.Prelude.{◌≡◌, ℕ, List, ◌++◌, Some, None, slice_index}
use Rattle.std.specs.Option.{unwrap_or}
use Rattle.grammar.specs.declared.tree.Line.{Line}
use Rattle.grammar.specs.Books.{IsBook}
use Rattle.book.specs.declared.book.Book.{Book}
use Rattle.book.specs.Books.{SeatFails, said_number, Holds}
use Rattle.book.specs.Seating.{book_meaning}
use Rattle.watch.specs.declared.notice.Notice.{Notice}
use Rattle.watch.specs.Losses.{bare}
use Rattle.watch.specs.Falls.{FallsBy}
use Rattle.watch.specs.Order.{Waits}
use Rattle.watch.specs.Account.{Account, Made}
use Rattle.watch.specs.Exchanges.{Exchange, taken, collected_in}
use Rattle.watch.specs.Story.{Story}
use Rattle.watch.specs.Notices.{NoticesBy}
use Rattle.watch.specs.Chains.{Chain}
use Rattle.terms_watch.specs.declared.opening.ClauseNumbers.{ClauseNumbers}

-- after the calls es, the watch b on the book of the lines ls: a seat is lost exactly when what its line says fails on the samples taken, and
-- its number is that of the last sample in the shortest opening that fails it, or 0 if that is empty
pub record BookStory (ls : List Line) (es : List Exchange) (b : Account) : Type 0 where
  pub lost : (k n : ℕ) → b.ledger.number k ≡ Some n → FallsBy 0 (SeatFails ls k) (taken es) n
  pub falls : (k n : ℕ) → FallsBy 0 (SeatFails ls k) (taken es) n → b.ledger.number k ≡ Some n
  pub stands : (k : ℕ) → b.ledger.number k ≡ None → SeatFails ls k (bare (taken es)) → ⊥
  pub safe : (k : ℕ) → (SeatFails ls k (bare (taken es)) → ⊥) → b.ledger.number k ≡ None
  -- the notices collected, then those waiting, are the notices of the lost seats
  pub waiting : List Notice
  pub waits : Waits b.ledger.number b.ledger.collected waiting
  pub notices : NoticesBy (SeatFails ls) (taken es) (collected_in es ++ waiting)

-- the clause number of seat k, or 0 where there is no such seat: by the lines, and by a table of the numbers
abbrev pub term_of : List Line → ℕ → ℕ
term_of ls k = unwrap_or (said_number ls k) 0

abbrev pub term_at : ClauseNumbers → ℕ → ℕ
term_at t k = slice_index t.numbers k

-- a watch was made on the newly read book of a text, with the clause numbers of its lines: of every chain of calls from then on the story
-- is told in the words of the lines
pub record Opens (text : List ℕ) (a : Account) (t : ClauseNumbers) : Type 0 where
  pub lines : List Line
  pub book : IsBook text lines
  pub terms : (k : ℕ) → term_at t k ≡ term_of lines k
  pub panel : Book
  pub holds : Holds panel lines
  pub made : Made (book_meaning panel) a
  pub tells : (es : List Exchange) (b : Account) → Chain a es b → Story (book_meaning panel) es b × BookStory lines es b
