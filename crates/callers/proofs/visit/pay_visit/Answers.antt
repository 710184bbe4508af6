use Rattle.std.proofs.Common.{refl}
use Rattle.watch.specs.Account.{account}
use Rattle.watch.specs.Chains.{Chain, none, link}
use Rattle.watch.specs.Chains as step
use Rattle.callers.specs.Visits.{exchanges_of}
use Rattle.callers.proofs.visit.pay_visit.Goals as goal

pub returns : goal.returns
returns g c =
    let a = account g.P.Panel.meaning c.new-watch.result in
    let b = account g.P.Panel.meaning c.collect-first.new.self in
    let chain : Chain a (exchanges_of c.args.words.now c.args.out.now c.list-written.new.out _) b =
    link _ _ (link _ _ (link _ _ none (step.deliver _ _ _ c.deliver-taken.ensures)) (step.list _ _ _ _ refl c.list-written.ensures.listed c.list-written.ensures.few.1)) (step.collect _ c.collect-first.ensures) in
    record {
      start = a;
      made = c.new-watch.ensures;
      chain = chain;
      story = c.chains_tell.ensures.tell (g.P.Panel.meaning c.args.panel) (g.met.P.Panel.lawful c.args.panel) a b _ c.new-watch.ensures chain;
    }
