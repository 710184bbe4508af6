-- A clause that fails keeps failing, and a new one does not fail on no samples; a book meets the laws of a panel.
use Rattle.std.specs.Prelude.{◌≡◌, ℕ, zero, suc, ◌≤◌, true, false, List, [], ◌++◌, length, None, Some, Option, refl}
use Rattle.std.proofs.Common.{sym, ap, ◌∙◌, ⊎_elim, arith}
use Rattle.std.proofs.lemmas.Bool.{cases_lt, false≢true}
use Rattle.std.proofs.lemmas.Option.{slice_get_past}
use Rattle.stream.specs.declared.sample.Sample.{Sample}
use Rattle.monitor.specs.declared.rule.Rule.{Rule}
use Rattle.monitor.specs.Turns.{unjudged, fails_rule, fresh_rule}
use Rattle.monitor.specs.Laws.{stays_on}
use Rattle.layers.specs.Laws.{Lasting, after_lasting, after_lasting_new, allow_lasting, allow_lasting_new, allow_none, either_lasting, either_none, choice_lasting, choice_none}
use Rattle.panel.specs.Panels.{Lawful}
use Rattle.book.specs.declared.clause.Clause.{Clause}
use Rattle.book.specs.declared.book.Book.{Book}
use Rattle.book.specs.Seating.{at_seat, clauses_of, fails_at, book_meaning}
use Rattle.book.specs.Clauses.{Guarded, Body, fails_guarded, fresh_guarded, fails_body, fresh_body, fails_clause, fresh_clause}

pub guarded_lasting : (m : Guarded) → Lasting (fails_guarded m)
guarded_lasting = choice_lasting _ _ (λ r l k. stays_on l k r) (after_lasting fails_rule (λ r l k. stays_on l k r))

pub guarded_lasting_new : (m : Guarded) → Lasting (fresh_guarded m)
guarded_lasting_new =
    let lasts : (r : Rule) → Lasting (fresh_rule r) = λ r l k. stays_on l k (unjudged r.pattern) in
    choice_lasting _ _ lasts (after_lasting_new fresh_rule lasts)

pub guarded_starts : (m : Guarded) → fresh_guarded m [] ≡ false
guarded_starts = choice_none _ _ (λ r. refl) (λ a. refl)

pub body_lasting : (m : Body) → Lasting (fails_body m)
body_lasting = choice_lasting _ _ guarded_lasting (either_lasting _ _ guarded_lasting guarded_lasting)

pub body_lasting_new : (m : Body) → Lasting (fresh_body m)
body_lasting_new = choice_lasting _ _ guarded_lasting_new (either_lasting _ _ guarded_lasting_new guarded_lasting_new)

pub body_starts : (m : Body) → fresh_body m [] ≡ false
body_starts = choice_none _ _ guarded_starts (either_none fresh_guarded fresh_guarded guarded_starts guarded_starts)

pub clause_lasting : (m : Clause) → Lasting (fails_clause m)
clause_lasting m = allow_lasting fails_body body_lasting fresh_body body_lasting_new m.body

pub clause_lasting_new : (m : Clause) → Lasting (fresh_clause m)
clause_lasting_new m = allow_lasting_new fresh_body body_lasting_new m.body

pub clause_starts : (m : Clause) → fresh_clause m [] ≡ false
clause_starts m = allow_none fresh_body body_starts m.body

-- what a seat answers is lasting, and none past the count is lost
pub at_lasting : (c : Option Clause) (l h : List Sample) → fails_at c l ≡ true → fails_at c (l ++ h) ≡ true
at_lasting None l h e = absurd (false≢true e)
at_lasting (Some c) l h e = clause_lasting c l h e

pub seat_within : (cs : List Clause) (l : List Sample) (k : ℕ) → fails_at (at_seat cs k) l ≡ true → (1 ≤ k) × (k ≤ length cs)
seat_within cs l zero e = absurd (false≢true e)
seat_within cs l (suc k) e =
    ⊎_elim (λ lt. (omega arith, omega arith)) (λ ge. absurd (false≢true (ap (λ c. fails_at c l) (sym (slice_get_past cs k ge)) ∙ e))) (cases_lt k (length cs))

pub book_lawful : (b : Book) → Lawful (book_meaning b)
book_lawful b = record
    { size = (b.some, b.few); within = seat_within (clauses_of b); lasting = λ l h k. at_lasting (at_seat (clauses_of b) k) l h }
