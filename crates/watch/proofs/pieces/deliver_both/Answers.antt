use Rattle.watch.proofs.Alikes.{delivered_alike}
use Rattle.watch.proofs.pieces.deliver_both.Goals as goal

pub returns-clause-alike : goal.returns-clause-alike
returns-clause-alike g c h e =
    let d = delivered_alike _ _ _ _ _ _ _ _ _ _ h e c.deliver_pieces-first.ensures.whole c.deliver_pieces-second.ensures.whole in ((λ i. (d.0 i, d.1 i)), d.2)
