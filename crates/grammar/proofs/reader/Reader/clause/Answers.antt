use Rattle.grammar.specs.Numbers.{clause_of}
use Rattle.grammar.proofs.Same.{clause_is, made_read}
use Rattle.grammar.proofs.reader.Reader.clause.Goals as goal

pub returns : goal.returns
returns c =
    let h = c.in_ok-n.ensures.reads in
    record { answer = made_read clause_of _ _ _ _ h.answer (clause_is _ _ (rw c.unwrap.ensures at c.new.ensures)); kept = h.kept; place = tt }
