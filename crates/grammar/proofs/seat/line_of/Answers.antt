use Rattle.std.proofs.Common.{◌≡◌, None, ap, ◌∙◌, subst, inr, arith}
use Rattle.std.proofs.lemmas.Result.{err_from_is_err_and}
use Rattle.std.specs.Option.{ok_or}
use Rattle.stream.specs.declared.refusal.Refusal.TheVariants.{NoSuchLine}
use Rattle.grammar.specs.Seats.{LineAt}
use Rattle.grammar.proofs.Walks.{walk_next, walk_line, walk_end}
use Rattle.grammar.proofs.seat.line_of.Goals as goal

pub returns-in_err-rest : goal.returns-in_err-rest
returns-in_err-rest c =
    let none : c.split_line.result ≡ None = c.in_err-rest.ensures.ok_part in
    let same = c.in_err-rest.ensures.value ∙ ap (λ o. ok_or o NoSuchLine) none in
    let p = err_from_is_err_and c.from_residual.result c.from_residual.ensures.1 in
    rw (p.1, p.2) (cc, inr (walk_end c.args.text.now c.loop.rest.now c.loop.counter c.args.seat c.loop.invariant (omega arith) (rw none at c.split_line.ensures)))

pub loop-preserved : goal.loop-preserved
loop-preserved c =
    let h = rw c.in_ok-rest.ensures.ok_part at c.split_line.ensures in
    walk_next c.args.text.now c.loop.rest.now c.loop.counter c.loop.invariant _ _ h.0 h.1

pub returns-in_err-line : goal.returns-in_err-line
returns-in_err-line c =
    let none : c.split_line-2.result ≡ None = c.in_err-line.ensures.ok_part in
    let same = c.in_err-line.ensures.value ∙ ap (λ o. ok_or o NoSuchLine) none in
    let p = err_from_is_err_and c.from_residual-in_err-line.result c.from_residual-in_err-line.ensures.1 in
    rw (p.1, p.2) (cc, inr (walk_end c.args.text.now c.loop.rest.now c.loop.counter c.args.seat c.loop.invariant (omega arith) (rw none at c.split_line-2.ensures)))

pub returns : goal.returns
returns c =
    let h = rw c.in_ok-line.ensures.ok_part at c.split_line-2.ensures in
    let seat : c.loop.counter ≡ c.args.seat = omega arith in
    subst (λ k. LineAt c.args.text.now k c.in_ok-line.line.now) seat (walk_line c.args.text.now c.loop.rest.now c.loop.counter c.loop.invariant _ _ h.0 h.1)
