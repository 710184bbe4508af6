use Rattle.std.proofs.Common.{refl}
use Rattle.report.proofs.Followed.{fresh}
use Rattle.report.proofs.run.Run.new.Goals as goal

pub returns : goal.returns
returns c = fresh c.args.text.now _ c.in_ok-watch.ensures refl c.new.ensures
