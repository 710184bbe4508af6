use Rattle.report.specs.Runs.{GoesOn}
use Rattle.report.specs.Readers.{GaveFront}
use Rattle.report.proofs.run.Run.follow.Given as goal

abbrev pub invariant-loop : goal.invariant-loop
invariant-loop g l = GaveFront (g.R.Read.remaining l.initial.source) (g.R.Read.remaining l.source) (λ front. GoesOn l.initial.self front l.self)
