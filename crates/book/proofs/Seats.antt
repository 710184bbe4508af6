-- A book's clauses, one after another.
use Rattle.std.specs.Prelude.{◌≡◌, ℕ, zero, suc, ◌+◌, ◌<◌, true, false, ◌&&◌, ◌||◌, List, [], ◌∷◌, ◌++◌, length, Some, ◌==◌, refl}
use Rattle.std.proofs.Common.{sym, ap, ◌∙◌, arith}
use Rattle.std.specs.List.{slice_get, AllZip}
use Rattle.std.proofs.lemmas.Bool.Decides.{nat_tests}
use Rattle.stream.specs.declared.sample.Sample.{Sample}
use Rattle.panel.specs.declared.seats.Seats.{Seats}
use Rattle.panel.specs.Seating.{is_seat, has_seat}
use Rattle.book.specs.declared.clause.Clause.{Clause}
use Rattle.book.specs.Clauses.{fails_clause}
use Rattle.book.specs.Seating.{at_seat, fails_at, number_of}

-- the lost seats of some clauses are found
abbrev pub Found : List Clause → Seats → Type 0
Found cs lost = (k : ℕ) → has_seat lost k ≡ fails_at (at_seat cs k) []

-- one clause more, which stands or is lost
standing : (cs : List Clause) (y : Clause) → fails_clause y [] ≡ false → (k : ℕ) → fails_at (slice_get cs k) [] ≡ fails_at (slice_get (cs ++ y ∷ []) k) []
standing [] y e zero = sym e
standing [] y e (suc k) = refl
standing (c ∷ cs) y e zero = refl
standing (c ∷ cs) y e (suc k) = standing cs y e k

lost_too : (cs : List Clause) (y : Clause) → fails_clause y [] ≡ true → (k : ℕ) → (fails_at (slice_get cs k) [] || length cs == k) ≡ fails_at (slice_get (cs ++ y ∷ []) k) []
lost_too [] y e zero = sym e
lost_too [] y e (suc k) = grind (arith, nat_tests)
lost_too (c ∷ cs) y e zero = grind (arith, nat_tests)
lost_too (c ∷ cs) y e (suc k) = grind (arith, nat_tests, lost_too cs y e k)

module _ (cs : List Clause) (i : ℕ) (y : Clause) (old : Seats) (found : Found cs old) where
  pub found_standing : fails_clause y [] ≡ false → Found (cs ++ y ∷ []) old
  found_standing e zero = found zero
  found_standing e (suc k) = found (suc k) ∙ standing cs y e k

  pub found_lost : (one new : Seats) → length cs ≡ i → i < 64 → fails_clause y [] ≡ true → ((k : ℕ) → has_seat one k ≡ (i + 1 == k && is_seat k))
      → ((k : ℕ) → has_seat new k ≡ (has_seat old k || has_seat one k)) → Found (cs ++ y ∷ []) new
  found_lost one new long h e o n zero = grind (arith, nat_tests, n zero, o zero, found zero)
  found_lost one new long h e o n (suc k) = grind (arith, nat_tests, long, n (suc k), o (suc k), found (suc k), lost_too cs y e k)

-- x has been judged
abbrev pub Judged : Sample → Clause → Clause → Type 0
Judged x c d = ((l : List Sample) → fails_clause d l ≡ fails_clause c (x ∷ l)) × (d.number ≡ c.number)

module _ (x : Sample) where
  at_judged : (cs ds : List Clause) → AllZip (Judged x) cs ds → (k : ℕ) → ((l : List Sample) → fails_at (slice_get ds k) l ≡ fails_at (slice_get cs k) (x ∷ l)) × (number_of (slice_get ds k) ≡ number_of (slice_get cs k))
  at_judged [] [] z k = (λ l. refl, refl)
  at_judged [] (d ∷ ds) z k = absurd z
  at_judged (c ∷ cs) [] z k = absurd z
  at_judged (c ∷ cs) (d ∷ ds) z zero = (z.0.0, ap (λ n. Some n.value) z.0.1)
  at_judged (c ∷ cs) (d ∷ ds) z (suc k) = at_judged cs ds z.1 k

  pub judged_seats : (cs ds : List Clause) → AllZip (Judged x) cs ds → (k : ℕ) → ((l : List Sample) → fails_at (at_seat ds k) l ≡ fails_at (at_seat cs k) (x ∷ l)) × (number_of (at_seat ds k) ≡ number_of (at_seat cs k))
  judged_seats cs ds z zero = (λ l. refl, refl)
  judged_seats cs ds z (suc k) = at_judged cs ds z k
