use Rattle.std.proofs.Common.{◌∙◌}
use Rattle.callers.proofs.Cutting.{as_far, front_refused, rest_follows}
use Rattle.callers.proofs.halves.deliver_halves.Goals as goal

pub returns-in-Some : goal.returns-in-Some
returns-in-Some g c =
    let cut = as_far c.args.words.now c.args.at c.min.result c.min.ensures in
    front_refused _ _ _ _ _ _ (c.split_at.ensures.front ∙ cut.0) c.deliver-taken.ensures _ _ c.in-Some.is

pub returns : goal.returns
returns g c =
    let cut = as_far c.args.words.now c.args.at c.min.result c.min.ensures in
    rest_follows _ _ _ _ _ _ (c.split_at.ensures.front ∙ cut.0) c.deliver-taken.ensures _ _ _ _ _ c.in_default.is (c.split_at.ensures.back ∙ cut.1) c.deliver-more.ensures
