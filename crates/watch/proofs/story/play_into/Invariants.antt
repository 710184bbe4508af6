use Rattle.std.proofs.Common.{◌≡◌, take, drop}
use Rattle.watch.specs.Account.{account}
use Rattle.watch.proofs.Plays.{Playing}
use Rattle.watch.proofs.story.play_into.Given as goal

abbrev pub invariant-loop-i : goal.invariant-loop-i
invariant-loop-i g l =
    Playing (account g.P.Panel.meaning l.initial.watch) (take l.i l.calls) (take l.i l.answers) (account g.P.Panel.meaning l.watch)
    × (drop l.i l.answers ≡ drop l.i l.initial.answers)
