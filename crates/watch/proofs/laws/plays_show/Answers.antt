use Rattle.watch.proofs.Plays.{plays_show}
use Rattle.watch.proofs.laws.plays_show.Goals as goal

pub returns : goal.returns
returns c = plays_show
