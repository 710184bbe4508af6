use Rattle.std.proofs.Common.{◌≡◌, suc, unwrap_or, refl}
use Rattle.layers.specs.Layers.{allow_new}
use Rattle.book.specs.Clauses.{fresh_body}
use Rattle.book.specs.Meaning.{RulesFail}
use Rattle.book.proofs.Same.{by_breaks}
use Rattle.book.proofs.clause.ClauseFromRefLine.from.Goals as goal

pub returns : goal.returns
returns c =
    let line = c.args.line.now in
    let allowed : c.unwrap_or-allowed.result ≡ unwrap_or line.allow 0 = c.unwrap_or-allowed.ensures in
    record {
      numbered = refl;
      meaning = λ l.
          by_breaks (fresh_body c.body_of.result) (RulesFail line.first line.second) c.body_of.ensures (allow_new fresh_body c.new.result l) (suc (unwrap_or line.allow 0)) l
          (rw (← allowed) (c.new.ensures.meaning l));
      made = c.new.ensures.made;
    }
