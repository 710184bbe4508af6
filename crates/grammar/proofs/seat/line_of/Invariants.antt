use Rattle.grammar.proofs.Walks.{Walk}
use Rattle.grammar.proofs.seat.line_of.Given as goal

abbrev pub invariant-loop : goal.invariant-loop
invariant-loop l = Walk l.text l.rest l.counter
