-- What the seats of a book answer, from what its clauses do. Whose lines they are is promised where a book is made.
use Rattle.std.specs.Prelude.{ℕ, zero, suc, Bool, false, List, Some, None, Option}
use Rattle.std.specs.List.{slice_get}
use Rattle.std.specs.Option.{option_map}
use Rattle.stream.specs.declared.sample.Sample.{Sample}
use Rattle.arrayvec.specs.ArrayVec.{array_vec_len}
use Rattle.panel.specs.Panels.{Meaning}
use Rattle.book.specs.declared.clause.Clause.{Clause}
use Rattle.book.specs.declared.book.Book.{Book}
use Rattle.book.specs.Clauses.{fails_clause}

-- what stands at seat k of a list, where seats are numbered from 1
abbrev pub at_seat : {T : Type 0} → List T → ℕ → Option T
at_seat xs zero = None
at_seat xs (suc k) = slice_get xs k

-- the clauses of a book, from seat 1 on
abbrev pub clauses_of : Book → List Clause
clauses_of b = b.clauses.items

-- a seat without a clause is never lost
abbrev pub fails_at : Option Clause → List Sample → Bool
fails_at None l = false
fails_at (Some c) l = fails_clause c l

-- a seat for each clause, lost where its clause fails
abbrev pub book_meaning : Book → Meaning
book_meaning b = record { count = array_vec_len b.clauses; lost = λ l k. fails_at (at_seat (clauses_of b) k) l }

-- the number of a clause, if there is one
abbrev pub number_of : Option Clause → Option ℕ
number_of c = option_map (λ x. x.number.value) c

-- the clause number of seat k
abbrev pub number_at : Book → ℕ → Option ℕ
number_at b k = number_of (at_seat (clauses_of b) k)
