use Rattle.std.proofs.Common.{rules}
use Rattle.panel.proofs.Members.{or_seats}
use Rattle.panel.proofs.seats.Seats.union.Goals as goal

pub returns : goal.returns
returns c = search (rules, or_seats)
