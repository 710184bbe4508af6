use Rattle.std.proofs.Common.{◌-◌, ◌<◌, List, length, take, refl, subst, arith}
use Rattle.std.proofs.lemmas.List.{length-take, get_or-take}
use Rattle.watch.specs.declared.story.PlayCall.{PlayCall}
use Rattle.watch.specs.declared.story.PlayCall.TheVariants.{Begin}
use Rattle.watch.specs.declared.story.PlayAnswer.{PlayAnswer}
use Rattle.watch.specs.Account.{account}
use Rattle.watch.proofs.Stories.{tell}
use Rattle.watch.proofs.Plays.{Playing, playing_none, placed, reached, beyond}
use Rattle.watch.proofs.story.play_into.Goals as goal

pub loop-i-init : goal.loop-i-init
loop-i-init g c = (playing_none _, refl)

pub loop-i-preserved : goal.loop-i-preserved
loop-i-preserved g c =
    let i = c.loop-i.i in
    let within : i < c.min-count.result - 0 = omega (arith, simp length-take at c.loop-i-test.true) in
    let given = get_or-take (c.min-count.result - 0) c.args.calls.now i (Begin 0) within in
    placed _ _ _ c.args.calls.now c.loop-i.answers c.args.answers.now i (Begin 0) _ _
    (omega (arith, c.min-count.ensures)) (omega (arith, c.min-count.ensures)) c.loop-i.invariant (search (given, refl)) c.answer_to.ensures

pub returns : goal.returns
returns g c =
    let calls = c.args.calls.now in
    let answers = c.loop-i.answers in
    let a = account g.P.Panel.meaning c.new-watch.result in
    let b = account g.P.Panel.meaning c.loop-i.watch in
    let made = reached calls c.loop-i.i (length c.args.answers.now) (omega (arith, c.min-count.ensures)) in
    let given = reached answers c.loop-i.i (length calls) (omega (arith, c.min-count.ensures)) in
    let playing : Playing a (take (length c.args.answers.now) calls) (take (length calls) answers) b =
    subst (λ (z : List PlayCall). Playing a z (take (length calls) answers) b) made (subst (λ (z : List PlayAnswer). Playing a (take c.loop-i.i calls) z b) given c.loop-i.invariant.0) in
    record {
      played = record {
        start = a;
        exchanges = playing.exchanges;
        calls_are = playing.calls_are;
        answers_are = playing.answers_are;
        made = c.new-watch.ensures;
        chain = playing.chain;
        story = tell (g.P.Panel.meaning c.args.panel) (g.met.P.Panel.lawful c.args.panel) a b playing.exchanges c.new-watch.ensures playing.chain;
      };
      rest = beyond answers c.args.answers.now c.loop-i.i (length calls) c.loop-i.auto.answers (omega (arith, c.min-count.ensures)) c.loop-i.invariant.1;
    }
