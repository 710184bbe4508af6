use Rattle.watch.proofs.Only.{one_waiting}
use Rattle.watch.proofs.laws.waiting_tells.Goals as goal

pub returns : goal.returns
returns c = one_waiting
