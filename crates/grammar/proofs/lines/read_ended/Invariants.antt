use Rattle.std.proofs.Common.{◌≤◌, length}
use Rattle.grammar.proofs.Texts.{Sofar}
use Rattle.grammar.proofs.lines.read_ended.Given as goal

abbrev pub invariant-loop-line : goal.invariant-loop-line
invariant-loop-line l = record { few : length l.lines.items ≤ 64; sofar : Sofar l.text l.lines.items l.rest }

abbrev pub decreases-loop-line : goal.decreases-loop-line
decreases-loop-line l = length l.rest
