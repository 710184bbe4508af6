-- A line's clause, before any sample, decides what the line means.
use Rattle.std.proofs.Common.{suc, false, List, drop, Some, None, Decides, Option, unwrap_or, refl}
use Rattle.std.proofs.lemmas.Bool.{and_parts, and_from}
use Rattle.stream.specs.declared.sample.Sample.{Sample}
use Rattle.stream.specs.declared.signal.Signal.{Signal}
use Rattle.monitor.specs.declared.pattern.Pattern.{Pattern}
use Rattle.monitor.specs.declared.rule.Rule.{Rule}
use Rattle.monitor.specs.Sentences.{Sentence}
use Rattle.monitor.specs.Turns.{unjudged, fresh_rule}
use Rattle.monitor.proofs.Meanings.{fails_by_sentence}
use Rattle.layers.specs.declared.choice.Choice.TheVariants.{One, Other}
use Rattle.layers.specs.Parts.{Fails, FirstPart}
use Rattle.layers.proofs.FirstParts.{after_decides}
use Rattle.layers.proofs.Openings.{allow_decides}
use Rattle.grammar.specs.declared.tree.Term.{Term}
use Rattle.grammar.specs.declared.tree.Line.{Line}
use Rattle.book.specs.declared.clause.Clause.{Clause}
use Rattle.book.specs.Clauses.{Guarded, Body, fresh_guarded, fresh_body, fresh_clause}
use Rattle.book.specs.Meaning.{AfterFails, TermFails, RulesFail, ClauseFails}
use Rattle.book.specs.Laws.{body_lasting_new, body_starts}
use Rattle.book.proofs.Same.{by_breaks}

-- the clause of a line, part by part
abbrev guarded_by : Option Signal → Rule → Guarded
guarded_by None rule = One rule
guarded_by (Some q) rule = Other (record { trigger = q; opened = false; below = rule })

abbrev guarded_of : Term → Guarded
guarded_of t = guarded_by t.after (unjudged t.pattern)

abbrev body_of : Term → Option Term → Body
body_of t None = One (guarded_of t)
body_of t (Some u) = Other (record { first = guarded_of t; second = guarded_of u })

abbrev rules_of : Line → Body
rules_of line = body_of line.first line.second

abbrev pub clause_of : Line → Clause
clause_of line = record {
  number = line.number;
  body = record { allowed = unwrap_or line.allow 0; left = unwrap_or line.allow 0; below = rules_of line };
}

first_by : (q : Signal) (P Q : List Sample → Type 0) → ((l : List Sample) → P l → Q l) → (l : List Sample) → FirstPart q P l → FirstPart q Q l
first_by q P Q f l (n, lt, here, before, part) = (n, lt, here, before, f (drop n l) part)

-- each part decides the sentence of its part of the line
rule_means : (p : Pattern) (l : List Sample) → Decides (fresh_rule (unjudged p) l) (Sentence p l)
rule_means p l = fails_by_sentence (unjudged p) p refl l

after_means : (o : Option Signal) (p : Pattern) (l : List Sample) → Decides (fresh_guarded (guarded_by o (unjudged p)) l) (AfterFails o (Sentence p) l)
after_means None p l = rule_means p l
after_means (Some q) p l =
    let F = fresh_rule (unjudged p) in
    let d = after_decides q F {G = F} (λ x. refl) l in (
      λ e. first_by q (Fails F) (Sentence p) (λ x. (rule_means p x).0) l (d.0 e),
      λ h. d.1 (first_by q (Sentence p) (Fails F) (λ x. (rule_means p x).1) l h),
    )

term_means : (t : Term) (l : List Sample) → Decides (fresh_guarded (guarded_of t) l) (TermFails t l)
term_means t l = after_means t.after t.pattern l

rules_mean : (t : Term) (o : Option Term) (l : List Sample) → Decides (fresh_body (body_of t o) l) (RulesFail t o l)
rules_mean t None l = term_means t l
rules_mean t (Some u) l = (
  λ e. let both = and_parts _ _ e in ((term_means t l).0 both.0, (term_means u l).0 both.1),
  λ h. and_from _ _ ((term_means t l).1 h.0) ((term_means u l).1 h.1),
)

pub clause_means : (line : Line) (l : List Sample) → Decides (fresh_clause (clause_of line) l) (ClauseFails line l)
clause_means line l =
    let F = fresh_body (rules_of line) in
    let n = unwrap_or line.allow 0 in
    by_breaks F (RulesFail line.first line.second) (rules_mean line.first line.second) (fresh_clause (clause_of line) l) (suc n) l
    (allow_decides F (body_lasting_new (rules_of line)) (body_starts (rules_of line)) {F = F} (λ x. refl) n l)
