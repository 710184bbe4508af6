use Rattle.std.proofs.Common.{◌-◌, arith}
use Rattle.std.proofs.lemmas.List.{take-replicate, drop-replicate}
use Rattle.watch.specs.Account.{account}
use Rattle.watch.specs.Blanks.{blank}
use Rattle.watch.proofs.Plays.{looked}
use Rattle.watch.proofs.story.look.Goals as goal

pub returns : goal.returns
returns g c =
    let reach = c.min-reach.result - 0 in
    looked (account g.P.Panel.meaning c.args.watch.now) c.args.room reach _ c.list-written.new.out _ _ _ c.list-written.ensures.listed c.list-written.ensures.few.1 (omega (arith, c.min-reach.ensures))
    (take-replicate reach 64 blank (omega (arith, c.min-reach.ensures))) (drop-replicate reach 64 blank)
