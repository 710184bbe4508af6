use Rattle.std.proofs.Common.{sym, ◌∙◌}
use Rattle.callers.proofs.Cutting.{halves}
use Rattle.callers.proofs.halves.cut_in_two.Goals as goal

pub returns-clause-alike : goal.returns-clause-alike
returns-clause-alike g c h =
    let ws = c.args.words.now in
    let d = c.alike_tells.ensures.pieces _ _ _ _ _ _ _ _ _ _ h (halves ws c.args.at ∙ sym (halves ws c.args.other)) c.deliver_halves-first.ensures c.deliver_halves-second.ensures in
    ((λ i. (d.0 i, d.1 i)), d.2)
