use Rattle.std.proofs.Common.{◌∙◌, arith}
use Rattle.grammar.proofs.Texts.{last_is}
use Rattle.grammar.proofs.lines.last_number.Goals as goal

pub returns-in-len1-up : goal.returns-in-len1-up
returns-in-len1-up c = c.get.ensures ∙ last_is c.args.lines.now c.last-item.result (omega arith) c.last-item.is
