use Rattle.std.proofs.Common.{Bool, cond, [], Some, None, ap, ◌∙◌}
use Rattle.watch.specs.Ledgers.{number_of}
use Rattle.watch.specs.Losses.{kept_or, number_by}
use Rattle.watch.proofs.watch.Watch.judge.Goals as goal

pub returns-clause-seats : goal.returns-clause-seats
unfolding number_by
returns-clause-seats g c = record {
  number = λ k. c.enter.ensures.number k
      ∙ ap (λ (b : Bool). kept_or (number_of c.args.self.now.ledger k) (cond b (Some c.args.numbered.number) None))
      (c.judge-lost.ensures.answer k ∙ c.judge-lost.ensures.after.lost [] k);
  collected = c.enter.ensures.collected;
}
