use Rattle.std.proofs.Common.{ℕ, List, ◌++◌, take}
use Rattle.report.specs.Runs.{Follows}
use Rattle.report.proofs.run.Run.read.Given as goal

abbrev pub invariant-loop-byte : goal.invariant-loop-byte
invariant-loop-byte l = (text before : List ℕ) → Follows text before l.initial.self → Follows text (before ++ take l.byte-index l.bytes) l.self
