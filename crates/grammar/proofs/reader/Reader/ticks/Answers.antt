use Rattle.grammar.specs.Numbers.{ticks_of}
use Rattle.grammar.proofs.Same.{ticks_is, made_read}
use Rattle.grammar.proofs.reader.Reader.ticks.Goals as goal

pub returns : goal.returns
returns c =
    let h = c.in_ok-n.ensures.reads in
    record { answer = made_read ticks_of _ _ _ _ h.answer (ticks_is _ _ (rw c.unwrap.ensures at c.new.ensures)); kept = h.kept; place = tt }
