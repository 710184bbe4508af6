use Rattle.std.proofs.Common.{rules}
use Rattle.panel.proofs.Members.{no_seats}
use Rattle.panel.proofs.seats.Seats.none.Goals as goal

pub returns : goal.returns
returns c = search (rules, no_seats)
