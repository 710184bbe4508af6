use Rattle.std.proofs.Common.{drop}
use Rattle.watch.specs.Account.{account}
use Rattle.watch.proofs.Deliveries.{Rest}
use Rattle.watch.proofs.watch.Watch.deliver.Given as goal

abbrev pub invariant-loop-taken : goal.invariant-loop-taken
invariant-loop-taken g l =
    Rest (account g.P.Panel.meaning l.initial.self) l.piece (account g.P.Panel.meaning l.self) l.taken (drop l.taken l.piece)
