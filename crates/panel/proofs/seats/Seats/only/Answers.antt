use Rattle.std.proofs.Common.{rules}
use Rattle.panel.proofs.Members.{one_seat}
use Rattle.panel.proofs.seats.Seats.only.Goals as goal

pub returns-in-1-to-64 : goal.returns-in-1-to-64
returns-in-1-to-64 c = search (rules, one_seat)
