use Rattle.std.proofs.Common.{arith}
use Rattle.watch.proofs.Turns.{pieces_tell, turn_more, turn_stop, turn_end}
use Rattle.watch.proofs.watch.Watch.deliver_pieces.Goals as goal

pub loop-piece-preserved : goal.loop-piece-preserved
loop-piece-preserved g c = (
  turn_more _ _ _ _ _ _ c.loop-piece.piece-index c.args.pieces.now _ _ c.loop-piece-test.true c.loop-piece.invariant.0 c.deliver-taken.ensures c.in_default.is,
  omega (arith, c.loop-piece.invariant.1, c.deliver-taken.type_inv),
)

pub returns-in-Some : goal.returns-in-Some
returns-in-Some g c =
    let each = turn_stop _ _ _ _ _ _ c.loop-piece.piece-index c.args.pieces.now _ _ _ c.loop-piece-test.true c.loop-piece.invariant.0 c.deliver-taken.ensures c.in-Some.is in
    record { each = each; whole = pieces_tell _ _ _ _ _ each }

pub returns : goal.returns
returns g c =
    let each = turn_end _ _ _ _ c.loop-piece.piece-index c.args.pieces.now c.loop-piece-test.false c.loop-piece.invariant.0 in
    record { each = each; whole = pieces_tell _ _ _ _ _ each }
