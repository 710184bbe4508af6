use Rattle.std.proofs.Common.{rules}
use Rattle.panel.proofs.Members.{without_seats}
use Rattle.panel.proofs.seats.Seats.without.Goals as goal

pub returns : goal.returns
returns c = search (rules, without_seats)
