-- The one test over the table: a case that passes it comes out, and all of them pass.
use Rattle.std.proofs.Common.{◌≡◌, ℕ, ◌≤◌, Bool, true, false, ◌&&◌, eqb, leb, List, [], ◌∷◌, ◌++◌, length, Some, None, Option, unwrap_or, refl, ap, arith, lit≤}
use Rattle.std.specs.Option.{option_map}
use Rattle.std.specs.List.{AllByRecursion}
use Rattle.std.specs.Fmt.{digits}
use Rattle.std.specs.Str.{bytes_eq}
use Rattle.std.proofs.lemmas.Slice.Eq.{bytes_eq-Decides}
use Rattle.std.proofs.lemmas.Bool.{and_parts, both_ways, eqb-true, false≢true, leb-true}
use Rattle.stream.specs.declared.sample.Sample.{Sample}
use Rattle.stream.specs.declared.numbered.Numbered.{Numbered}
use Rattle.stream.specs.Refusals.{number_of}
use Rattle.stream.specs.Words.{unread, begin_refusal, refusal, feeding}
use Rattle.grammar.specs.declared.tree.Line.{Line}
use Rattle.grammar.specs.Books.{book_text, IsBook}
use Rattle.grammar.specs.Grammar.{Allowed}
use Rattle.watch.specs.Losses.{bare, number_by}
use Rattle.watch.specs.Falls.{Lasting, number_on}
use Rattle.watch.proofs.Carried.{falls_said}
use Rattle.watch.proofs.Falling.{numbers_right}
use Rattle.book.specs.Clauses.{fresh_clause}
use Rattle.book.specs.Meaning.{ClauseFails}
use Rattle.book.specs.Laws.{clause_lasting_new}
use Rattle.cases.specs.Cases.{Case, fed_by, LostAt, ComesOut, marked, MarkedCases}
use Rattle.cases.proofs.Clauses.{clause_of, clause_means}

-- numbers that may be absent, compared
abbrev same_option : Option ℕ → Option ℕ → Bool
same_option None None = true
same_option None (Some n) = false
same_option (Some m) None = false
same_option (Some m) (Some n) = eqb m n

same_option_true : (o u : Option ℕ) → same_option o u ≡ true → o ≡ u
same_option_true None None e = refl
same_option_true None (Some n) e = absurd (false≢true e)
same_option_true (Some m) None e = absurd (false≢true e)
same_option_true (Some m) (Some n) e = ap Some (eqb-true m n e)

mapped_none : {X Y : Type 0} (f : X → Y) (o : Option X) → option_map f o ≡ None → o ≡ None
mapped_none f None e = refl
mapped_none f (Some x) e = absurd (let z : ◌≡◌ {A = ℕ} 0 1 = cc in omega arith)

-- the line's clause as a panel of one seat, and the number at which that is lost
abbrev fails : Line → List Sample → ℕ → Bool
fails line l k = fresh_clause (clause_of line) l

abbrev lost_on : Line → List Numbered → Option ℕ
lost_on line T = number_on 0 (fails line) T 0

fails_lasting : (line : Line) → Lasting (fails line)
fails_lasting line l h k = clause_lasting_new (clause_of line) l h

lost_right : (o : Option ℕ) (line : Line) (T : List Numbered) → lost_on line T ≡ o → LostAt o line T
lost_right (Some n) line T e =
    falls_said (fails line) 0 (ClauseFails line) (clause_means line) 0 T n
    ((numbers_right (fails line) (fails_lasting line) T 0).falls n e)
lost_right None line T e =
    λ h. both_ways _ ((numbers_right (fails line) (fails_lasting line) T 0).stands e) ((clause_means line (bare T)).1 h)

-- a line that is spelled so makes a book
allowed_by : (o : Option ℕ) → unwrap_or o 0 ≤ 255 → Allowed o
allowed_by None h = tt
allowed_by (Some n) h = h

one_line_book : (text : List ℕ) (line : Line) → text ++ (10 ∷ []) ≡ book_text (line ∷ []) → length (text ++ (10 ∷ [])) ≤ 8192 → unwrap_or line.allow 0 ≤ 255
    → IsBook (text ++ (10 ∷ [])) (line ∷ [])
one_line_book text line spelled short allowed =
    record { spelled = spelled; rising = (allowed_by line.allow allowed, (line.number.from, tt)); some = lit≤ tt; few = lit≤ tt; short = short }

-- each thing that a case expects, computed and compared
abbrev passes : Case → Bool
passes c =
    bytes_eq (c.text ++ (10 ∷ [])) (book_text (c.line ∷ []))
    && (leb (length (c.text ++ (10 ∷ []))) 8192 && (leb (unwrap_or c.line.allow 0) 255
    && (same_option (option_map number_of (begin_refusal unread c.start)) None
    && (eqb (fed_by c).count c.taken
    && (same_option (option_map number_of (fed_by c).refused) c.refusal
    && same_option (lost_on c.line (fed_by c).samples) c.lost)))))

pass : (c : Case) → passes c ≡ true → ComesOut c
pass c e =
    let (spelled, e1) = and_parts _ _ e in
    let (short, e2) = and_parts _ _ e1 in
    let (allowed, e3) = and_parts _ _ e2 in
    let (begins, e4) = and_parts _ _ e3 in
    let (taken, e5) = and_parts _ _ e4 in
    let (refused, lost) = and_parts _ _ e5 in
    record {
      book = one_line_book c.text c.line ((bytes_eq-Decides _ _).0 spelled) (leb-true _ _ short) (leb-true _ _ allowed);
      begins = mapped_none number_of (begin_refusal unread c.start) (same_option_true _ _ begins);
      taken = eqb-true _ _ taken;
      refusal = same_option_true _ _ refused;
      lost = lost_right c.lost c.line (fed_by c).samples (same_option_true _ _ lost);
    }

-- all of the table, at once
abbrev all_pass : List Case → Bool
all_pass [] = true
all_pass (c ∷ cs) = passes c && all_pass cs

each : (cs : List Case) → all_pass cs ≡ true → AllByRecursion ComesOut cs
each [] e = tt
each (c ∷ cs) e = let both = and_parts _ _ e in (pass c both.0, each cs both.1)

marked_pass : all_pass marked ≡ true
unfolding marked digits refusal feeding number_by
marked_pass = refl

pub marked_cases : MarkedCases
marked_cases = each marked marked_pass
