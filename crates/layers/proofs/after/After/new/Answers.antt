use Rattle.layers.proofs.FirstParts.{after_decides}
use Rattle.layers.proofs.after.After.new.Goals as goal

pub returns-clause-meaning : goal.returns-clause-meaning
returns-clause-meaning g c = after_decides c.args.trigger (g.M.Monitor.fails_new c.args.below) c.renewed.ensures.keeps
