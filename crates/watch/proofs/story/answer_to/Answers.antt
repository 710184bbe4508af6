use Rattle.std.proofs.Common.{refl}
use Rattle.watch.specs.Answers as answer
use Rattle.watch.specs.Chains as step
use Rattle.watch.proofs.story.answer_to.Goals as goal

pub returns-in-Begin : goal.returns-in-Begin
returns-in-Begin g c = rw c.in-Begin.is (answer.done _, refl, step.begin _ _ c.begin.ensures)

pub returns-in-Deliver : goal.returns-in-Deliver
returns-in-Deliver g c = rw c.in-Deliver.is (answer.took _ _, refl, step.deliver _ _ _ c.deliver-taken.ensures)

pub returns-in-List : goal.returns-in-List
returns-in-List g c =
    let l = c.look-written.ensures in
    rw (c.in-List.is, l.1) (answer.listed l.0 _ _, refl, step.list _ l.0 _ _ refl l.2 l.3)

pub returns-in-Collect : goal.returns-in-Collect
returns-in-Collect g c = rw c.in-Collect.is (answer.collected _, refl, step.collect _ c.collect.ensures)
