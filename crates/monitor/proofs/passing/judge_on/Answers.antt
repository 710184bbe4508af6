use Rattle.std.proofs.Common.{[], rules}
use Rattle.monitor.proofs.passing.judge_on.Goals as goal

-- a lost monitor fails on every list
pub returns-then-lost : goal.returns-then-lost
returns-then-lost g c =
    let lasts = g.met.M.Monitor.lasting_now c.args.monitor.now [] in
    search rules
