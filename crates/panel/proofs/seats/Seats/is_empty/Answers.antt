use Rattle.std.proofs.Common.{rules}
use Rattle.panel.proofs.Members.{empty_seats}
use Rattle.panel.proofs.seats.Seats.is_empty.Goals as goal

pub returns : goal.returns
returns c = search (rules, empty_seats)
