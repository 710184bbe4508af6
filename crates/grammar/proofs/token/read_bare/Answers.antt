use Rattle.std.proofs.Common.{◌∙◌, arith}
use Rattle.grammar.proofs.Same.{letter_ok}
use Rattle.grammar.proofs.token.read_bare.Goals as goal

pub returns-in-a-to-x : goal.returns-in-a-to-x
returns-in-a-to-x c = c.ok.ensures.value ∙ letter_ok c.args.b c.letter.result (omega arith) (omega arith) c.letter.ensures.value
