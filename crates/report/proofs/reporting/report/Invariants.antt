use Rattle.std.proofs.Common.{◌≡◌, ℕ, List, ◌++◌, drop}
use Rattle.watch.specs.Pieces.{words}
use Rattle.report.specs.Runs.{Follows}
use Rattle.report.proofs.reporting.report.Given as goal

abbrev pub invariant-loop-piece : goal.invariant-loop-piece
invariant-loop-piece l = (before : List ℕ) × Follows l.text before l.run × (before ++ words (drop l.piece-index l.pieces) ≡ words l.pieces)
