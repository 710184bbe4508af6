-- What `terms` prints.
use Rattle.std.specs.Prelude.{◌≡◌, ℕ, List, [], ◌∷◌, ◌++◌, length, Some, None, Option}
use Rattle.stream.specs.declared.refusal.Refusal.{Refusal}
use Rattle.stream.specs.declared.refusal.Refusal.TheVariants.{UnreadableFile}
use Rattle.stream.specs.Refusals.{number_of, first_of}
use Rattle.stream.specs.Bytes.{finish_by}
use Rattle.grammar.specs.declared.tree.Line.{Line}
use Rattle.grammar.specs.declared.fault.Fault.{Fault}
use Rattle.grammar.specs.Faults.{refusal_of}
use Rattle.grammar.specs.Books.{IsBook, BookFault}
use Rattle.book.specs.Books.{SeatFails}
use Rattle.watch.specs.declared.notice.Notice.{Notice}
use Rattle.watch.specs.Words.{refusal_in}
use Rattle.watch.specs.Notices.{NoticesBy}
use Rattle.printout.specs.Lines.{header_line, notice_line, done_line, stop_line}
use Rattle.report.specs.declared.run.Ending.{Ending}
use Rattle.report.specs.declared.run.Ending.TheVariants.{Complete, Unreadable}
use Rattle.stream.specs.Traces.{left_in, fed_by}
use Rattle.terms_watch.specs.Stories.{term_of}

-- why a run on these bytes stops, if it does: a word that is refused; then, at the end of the file, bytes that are left over; or that the
-- file could not be read to its end
abbrev pub stop_by : List ℕ → Ending → Option Refusal
stop_by bytes Complete = first_of ((fed_by bytes).refused ∷ refusal_in (finish_by (left_in bytes)) ∷ [])
stop_by bytes Unreadable = first_of ((fed_by bytes).refused ∷ Some UnreadableFile ∷ [])

-- the last line: STOP with the refusal, or DONE with the count of the samples taken
abbrev pub last_line : Option Refusal → ℕ → List ℕ
last_line (Some r) count = stop_line (number_of r)
last_line None count = done_line count

-- a line for each notice, with the number of its seat's clause
abbrev pub notice_lines : (ℕ → ℕ) → List Notice → List (List ℕ)
notice_lines term [] = []
notice_lines term (n ∷ ns) = notice_line (term n.seat) n.number ∷ notice_lines term ns

-- lines as they are printed, each with its line end
abbrev pub printed : List (List ℕ) → List ℕ
printed [] = []
printed (line ∷ rest) = line ++ (10 ∷ printed rest)

-- the header is first, then the notices, then the last line
abbrev pub page_of : List (List ℕ) → List ℕ → List ℕ
page_of notices last = printed (header_line ∷ (notices ++ (last ∷ [])))

-- what is printed where a refusal comes before any sample
abbrev pub stop_page : Refusal → List ℕ
stop_page r = page_of [] (stop_line (number_of r))

-- what is printed of a book's text, and then of the bytes of a trace, whose reading ended so: where the text is a book's, the notices of
-- the seats that are lost on the samples taken, by number and then seat; and where it has a fault, nothing but that
pub data Reported (text bytes : List ℕ) (end : Ending) (out : List ℕ) : Type 0 where
  judged : (ls : List Line) (ns : List Notice) → IsBook text ls → NoticesBy (SeatFails ls) (fed_by bytes).samples ns
      → out ≡ page_of (notice_lines (term_of ls) ns) (last_line (stop_by bytes end) (length (fed_by bytes).samples)) → Reported text bytes end out
  faulty : (f : Fault) → BookFault text f → out ≡ stop_page (refusal_of f) → Reported text bytes end out

-- there is only one such report
abbrev pub OneReport : Type 0
OneReport = (text bytes : List ℕ) (end : Ending) (x y : List ℕ) → Reported text bytes end x → Reported text bytes end y → x ≡ y
