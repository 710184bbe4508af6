use Rattle.std.proofs.Common.{take}
use Rattle.book.proofs.Seats.{Found}
use Rattle.book.proofs.book.BookPanel.lost.Given as goal

abbrev pub invariant-loop-i : goal.invariant-loop-i
invariant-loop-i l = Found (take l.i l.clause-items) l.seats
