use Rattle.std.proofs.Common.{arith}
use Rattle.std.proofs.lemmas.Bool.Decides.{nat_tests}
use Rattle.panel.specs.Seating.{has_seat}
use Rattle.panel.proofs.seats.Seats.has.Goals as goal

pub returns-then-seat-le64 : goal.returns-then-seat-le64
unfolding has_seat
returns-then-seat-le64 c = grind (arith, nat_tests)

pub returns-else-seat-le64 : goal.returns-else-seat-le64
unfolding has_seat
returns-else-seat-le64 c = grind (arith, nat_tests)
