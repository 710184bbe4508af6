use Rattle.std.proofs.Common.{sym, ◌∙◌}
use Rattle.layers.proofs.Openings.{over_broken, over_whole}
use Rattle.layers.proofs.allow.AllowMonitor.judge.Goals as goal

pub returns-then-judge_anew-clause-after : goal.returns-then-judge_anew-clause-after
returns-then-judge_anew-clause-after g c =
    let m = c.args.self.now in
    let j = c.judge_anew.ensures in
    let broke = c.if-judge_anew.true in
    over_broken (g.M.Monitor.fails_now m.below) (g.M.Monitor.fails_new m.below) c.args.sample m.left c.if-self-eq0.false j.keeps (sym j.answer ∙ broke) (j.broken broke)

pub returns-else-judge_anew-clause-after : goal.returns-else-judge_anew-clause-after
returns-else-judge_anew-clause-after g c =
    let m = c.args.self.now in
    let j = c.judge_anew.ensures in
    let whole = c.if-judge_anew.false in
    over_whole (g.M.Monitor.fails_now m.below) (g.M.Monitor.fails_new m.below) c.args.sample m.left c.if-self-eq0.false j.keeps (sym j.answer ∙ whole) (j.whole whole)
