use Rattle.layers.proofs.Openings.{allow_decides}
use Rattle.layers.proofs.allow.Allow.new.Goals as goal

pub returns-clause-meaning : goal.returns-clause-meaning
returns-clause-meaning g c =
    let m = c.args.below in
    let laws = g.met.M.Monitor in
    allow_decides (g.M.Monitor.fails_new m) (laws.lasting_new m) (laws.starts m) c.renewed.ensures.keeps c.args.allowed
