use Rattle.grammar.proofs.Cuts.{peek_word}
use Rattle.grammar.proofs.reader.Reader.word.Goals as goal

pub returns : goal.returns
returns c = let h = c.in_ok-rest.ensures.lookup.0 in peek_word c.args.self.now.line.now c.in_ok-rest.rest.now c.args.self.now.at _ h.0 h.2 c.length_to.ensures.long
