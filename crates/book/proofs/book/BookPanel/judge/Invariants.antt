use Rattle.std.proofs.Common.{◌≡◌, take, drop}
use Rattle.std.specs.List.{AllZip}
use Rattle.book.proofs.Seats.{Found, Judged}
use Rattle.book.proofs.book.BookPanel.judge.Given as goal

abbrev pub invariant-loop-i : goal.invariant-loop-i
invariant-loop-i l =
    AllZip (Judged l.sample) (take l.i l.initial.clause-items) (take l.i l.clause-items)
    × (drop l.i l.clause-items ≡ drop l.i l.initial.clause-items) × Found (take l.i l.clause-items) l.lost
