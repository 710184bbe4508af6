use Rattle.std.proofs.Common.{◌≡◌, ℕ, ◌+◌, length, Some, None, subst, arith}
use Rattle.watch.specs.Account.{account, Delivered}
use Rattle.watch.proofs.Deliveries.{rest_more, rest_stop, word_at, no_word}
use Rattle.watch.proofs.watch.Watch.deliver.Goals as goal

pub loop-taken-preserved : goal.loop-taken-preserved
loop-taken-preserved g c = rest_more _ _ _ _ _ 1 _ _ (word_at _ c.args.piece.now _ _ c.loop-taken.taken c.loop-taken-test.true c.loop-taken.invariant) c.in_default.ensures

pub returns-in-Err : goal.returns-in-Err
returns-in-Err g c =
    let same : c.loop-taken.taken + 0 ≡ c.loop-taken.taken = omega arith in
    subst (λ (n : ℕ). Delivered (account g.P.Panel.meaning c.args.self.now) c.args.piece.now (account g.P.Panel.meaning c.take.new.self) n (Some c.in-Err.refusal)) same
    (rest_stop _ _ _ _ _ 0 _ _ _ (word_at _ c.args.piece.now _ _ c.loop-taken.taken c.loop-taken-test.true c.loop-taken.invariant) c.in-Err.ensures)

pub returns : goal.returns
returns g c =
    let end : c.loop-taken.taken ≡ length c.args.piece.now = omega arith in
    subst (λ (n : ℕ). Delivered (account g.P.Panel.meaning c.args.self.now) c.args.piece.now (account g.P.Panel.meaning c.loop-taken.self) n None) end
    (no_word _ c.args.piece.now _ _ c.loop-taken.taken c.loop-taken-test.false c.loop-taken.invariant)
