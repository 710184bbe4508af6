-- A book is made line by line.
use Rattle.std.specs.Prelude.{◌≡◌, ℕ, zero, suc, List, [], ◌∷◌, ◌++◌, IsSomeAnd, Some, None, Decides, Option, refl}
use Rattle.std.proofs.Common.{sym, ap, subst}
use Rattle.std.specs.List.{slice_get, AllZip}
use Rattle.std.specs.Option.{option_map}
use Rattle.std.proofs.lemmas.Bool.{false≢true}
use Rattle.std.proofs.lemmas.Slice.Zip.{AllZip-long}
use Rattle.stream.specs.declared.sample.Sample.{Sample}
use Rattle.grammar.specs.declared.tree.Line.{Line}
use Rattle.book.specs.declared.clause.Clause.{Clause}
use Rattle.book.specs.declared.book.Book.{Book}
use Rattle.book.specs.Clauses.{Says}
use Rattle.book.specs.Meaning.{ClauseFails}
use Rattle.book.specs.Seating.{at_seat, fails_at, number_of}
use Rattle.book.specs.Books.{Holds}

pub zip_push : {A B : Type 0} (R : A → B → Type 0) (xs : List A) (ys : List B) (x : A) (y : B) → AllZip R xs ys → R x y → AllZip R (xs ++ x ∷ []) (ys ++ y ∷ [])
zip_push R [] [] x y z r = (r, z)
zip_push R [] (b ∷ ys) x y z r = absurd z
zip_push R (a ∷ xs) [] x y z r = absurd z
zip_push R (a ∷ xs) (b ∷ ys) x y z r = (z.0, zip_push R xs ys x y z.1 r)

-- the clause at a seat is that of the line there, if there is one
abbrev Same : Option Line → Option Clause → Type 0
Same line c = ((l : List Sample) → Decides (fails_at c l) (IsSomeAnd line (λ x. ClauseFails x l))) × (number_of c ≡ option_map (λ x. x.number.value) line)

same_none : Same None None
same_none = (λ l. (λ e. absurd (false≢true e), λ e. absurd e), refl)

at_both : (ls : List Line) (cs : List Clause) → AllZip Says ls cs → (k : ℕ) → Same (slice_get ls k) (slice_get cs k)
at_both [] [] z k = same_none
at_both [] (c ∷ cs) z k = absurd z
at_both (l ∷ ls) [] z k = absurd z
at_both (line ∷ ls) (c ∷ cs) z zero =
    (λ l. subst (λ b. Decides b (ClauseFails line l)) (sym (z.0.made l)) (z.0.meaning l), ap (λ n. Some n.value) z.0.numbered)
at_both (l ∷ ls) (c ∷ cs) z (suc k) = at_both ls cs z.1 k

seats_same : (ls : List Line) (cs : List Clause) → AllZip Says ls cs → (k : ℕ) → Same (at_seat ls k) (at_seat cs k)
seats_same ls cs z zero = same_none
seats_same ls cs z (suc k) = at_both ls cs z k

pub holds_all : (b : Book) (ls : List Line) → AllZip Says ls b.clauses.items → Holds b ls
holds_all b ls z =
    let same = seats_same ls b.clauses.items z in
    record { seats = AllZip-long Says ls b.clauses.items z; meaning = λ l k. (same k).0 l; numbers = λ k. (same k).1 }
