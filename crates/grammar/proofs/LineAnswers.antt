-- What the reading of one line answers.
use Rattle.std.proofs.Common.{◌≡◌, ℕ, ◌-◌, ◌<◌, ◌≤◌, List, length, Ok, Err, IsErrAnd, Result, decimal, sym, refl, ap, ◌∙◌, subst, arith}
use Rattle.std.specs.Str.Parse.{digits_value}
use Rattle.std.proofs.lemmas.List.Splits.{join_with_byte-slice_split}
use Rattle.std.specs.Result.{MatchResult, result_map_both}
use Rattle.grammar.specs.declared.clause.ClauseNumber.{ClauseNumber}
use Rattle.grammar.specs.declared.tree.Line.{Line}
use Rattle.grammar.specs.declared.fault.Place.{Place}
use Rattle.grammar.specs.declared.fault.Fault.{Fault}
use Rattle.grammar.specs.declared.snag.Snag.{Snag}
use Rattle.grammar.specs.Words.{unwords, words_of, left}
use Rattle.grammar.specs.Grammar.{Allowed, spell, NotAbove}
use Rattle.grammar.specs.Books.{LineFault}
use Rattle.grammar.specs.Contract.{Within, fault_of, ReadsLine}
use Rattle.grammar.specs.Reading.{Ws, got, bad, and_then, outcome, read_clause}
use Rattle.grammar.specs.Lines.{after_number}
use Rattle.grammar.proofs.Cuts.{left_in}
use Rattle.grammar.proofs.Spelled.{decimal_is}
use Rattle.grammar.proofs.Parts.{never_bad, clause_leaf}
use Rattle.grammar.proofs.LineReading.{line_takes, number_is, first_fault, not_above}

all_left : (line : List ℕ) → left line 0 ≡ words_of line
all_left line = left_in line 0 (omega arith)

-- what `map_err` gives
pub map_err_is : {X E F : Type 0} (to : E → F) {Q : E → F → Type 0} (r : Result X E) (m : Result X F) → MatchResult r (λ x. m ≡ Ok x) (λ e. IsErrAnd m (Q e)) → ((e : E) (f : F) → Q e f → f ≡ to e) → m ≡ result_map_both (λ x. x) to r
map_err_is to (Ok x) m h q = h
map_err_is to (Err e) (Ok y) h q = absurd h
map_err_is to (Err e) (Err f) h q = ap Err (q e f h)

-- what a line's clause number, or the fault in its place, says
module _ (k : ℕ) (line : List ℕ) (start : Place) (mid : Ws) (r : Result ClauseNumber Snag) (e : read_clause (left line 0) ≡ outcome (length line) mid r) where
  pub no_clause : (inside : Within (length line) r) (f : Fault) → Err f ≡ result_map_both (λ x. x) (fault_of start) r → LineFault k line start f
  no_clause inside f m = elim r as (λ r. read_clause (left line 0) ≡ outcome (length line) mid r → Within (length line) r → Err f ≡ result_map_both (λ x. x) (fault_of start) r → LineFault k line start f) [
    | Ok n ↦ λ e inside m. cc
    | Err s ↦ λ e inside m.
        let here : read_clause (words_of line) ≡ bad s.cause (length line - s.place) = ap read_clause (sym (all_left line)) ∙ e in
        let same : f ≡ fault_of start s = cc in
        subst (LineFault k line start) (sym same) (s.place, (refl, first_fault k line s.cause s.place inside (ap (λ r. and_then r after_number) here) (λ m mid g. absurd (never_bad m mid _ _ (sym g ∙ here)))))
  ] e inside m

  pub got_clause : (n : ClauseNumber) → Ok n ≡ result_map_both (λ x. x) (fault_of start) r → read_clause (left line 0) ≡ got n mid
  got_clause n m = elim r as (λ r. read_clause (left line 0) ≡ outcome (length line) mid r → Ok n ≡ result_map_both (λ x. x) (fault_of start) r → read_clause (left line 0) ≡ got n mid) [
    | Ok j ↦ λ e m. let same : j ≡ n = cc in e ∙ ap (λ j. got j mid) same
    | Err s ↦ λ e m. cc
  ] e m

pub low_clause : (k : ℕ) (line : List ℕ) (m : ClauseNumber) (mid : Ws) → read_clause (left line 0) ≡ got m mid → m.value ≤ k → NotAbove k line
low_clause k line m mid e low = not_above k line m mid (ap read_clause (sym (all_left line)) ∙ e) low

-- what follows it
module _ (k : ℕ) (line : List ℕ) (start : Place) (m : ClauseNumber) (mid : Ws) (e : read_clause (left line 0) ≡ got m mid) (up : k < m.value) where
  here : read_clause (words_of line) ≡ got m mid
  here = ap read_clause (sym (all_left line)) ∙ e

  no_terms : (len : ℕ) (s : Snag) → len ≡ length line → after_number m mid ≡ bad s.cause (len - s.place) → s.place ≤ len → LineFault k line start (fault_of start s)
  no_terms len s long f inside =
      let left : len - s.place ≡ length line - s.place = omega arith in (
        s.place,
        (
          refl,
          first_fault k line s.cause s.place (omega arith) (ap (λ r. and_then r after_number) here ∙ f ∙ ap (bad s.cause) left) (λ j rest g.
              let both = sym here ∙ g in
              let same : m ≡ j = cc in
              subst (λ x. k < x.value) same up),
        ),
      )

  all_terms : (l : Line) (rest : Ws) → after_number m mid ≡ got l rest → (line ≡ spell l) × (Allowed l.allow × (k < l.number.value))
  all_terms l rest f =
      let t = line_takes (words_of line) l rest (ap (λ r. and_then r after_number) here ∙ f) in
      let first = sym t.0 ∙ clause_leaf.takes (words_of line) m mid here in
      let h = m.upto in
      let word : decimal l.number.value ≡ decimal m.value = cc in
      let same : l.number.value ≡ m.value = sym (number_is l) ∙ ap (digits_value 10) word ∙ decimal_is m.value (omega arith) in
      (sym (join_with_byte-slice_split 32 line) ∙ ap unwords t.0, (t.1, subst (λ v. k < v) (sym same) up))

  pub terms_read : (len : ℕ) (rest : Ws) (r : Result Line Snag) → len ≡ length line → after_number m mid ≡ outcome len rest r → Within len r → ReadsLine k line start (result_map_both (λ x. x) (fault_of start) r)
  terms_read len rest (Ok l) long f inside = all_terms l rest f
  terms_read len rest (Err s) long f inside = no_terms len s long f inside
