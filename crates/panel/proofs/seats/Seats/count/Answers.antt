use Rattle.std.proofs.Common.{rules}
use Rattle.panel.proofs.Members.{count_seats}
use Rattle.panel.proofs.seats.Seats.count.Goals as goal

pub returns : goal.returns
returns c = search (rules, count_seats)
