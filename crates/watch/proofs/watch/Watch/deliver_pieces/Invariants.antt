use Rattle.std.proofs.Common.{◌*◌, ◌^◌, ◌≤◌, drop}
use Rattle.watch.specs.Account.{account}
use Rattle.watch.specs.Pieces.{contents}
use Rattle.watch.proofs.Turns.{Turn}
use Rattle.watch.proofs.watch.Watch.deliver_pieces.Given as goal

abbrev pub invariant-loop-piece : goal.invariant-loop-piece
invariant-loop-piece g l =
    Turn (account g.P.Panel.meaning l.initial.self) (contents l.pieces) (account g.P.Panel.meaning l.self) l.total (contents (drop l.piece-index l.pieces))
    × (l.total ≤ l.piece-index * 2 ^ 64)
