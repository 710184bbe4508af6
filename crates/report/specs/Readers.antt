-- What is read from files, by the bytes that they hold.
use Rattle.std.specs.Prelude.{◌≡◌, ℕ, List, ◌++◌, take, Option, Some, None, IfSome, ⊤}
use Rattle.report.specs.declared.run.Ending.{Ending}
use Rattle.report.specs.declared.run.Ending.TheVariants.{Complete, Unreadable}
use Rattle.report.specs.Reports.{Reported}

-- a reader that held these bytes, if they are known, gave a front of them, and has the rest left
abbrev pub GaveFront : Option (List ℕ) → Option (List ℕ) → (List ℕ → Type 0) → Type 0
GaveFront None left P = ⊤
GaveFront (Some xs) None P = ⊥
GaveFront (Some xs) (Some rest) P = (front : List ℕ) × ((xs ≡ front ++ rest) × P front)

-- what holds of the bytes that were read: of all that the reader held where the end was reached, and else of those that it has not left
abbrev pub Gave : Option (List ℕ) → Option (List ℕ) → Ending → (List ℕ → Type 0) → Type 0
Gave held left Complete P = IfSome held P
Gave held left Unreadable P = GaveFront held left P

-- the report on a text is that on its first 8,193 bytes: no book is longer than 8,192
abbrev pub FrontReports : Type 0
FrontReports = (text bytes : List ℕ) (end : Ending) (out : List ℕ) → Reported (take 8193 text) bytes end out → Reported text bytes end out
