use Rattle.std.proofs.Common.{◌≡◌, ◌+◌, ◌-◌, ◌*◌, ◌^◌, ◌≤◌, length, get_or, subst, arith, rules}
use Rattle.std.proofs.lemmas.Result.{err_from_is_err_and}
use Rattle.rows.specs.Rows.{NoneReads}
use Rattle.rows.proofs.Gaps.{gap_text, no_digits, other_byte, too_long, value_turn}
use Rattle.rows.proofs.reading.read_gap.Goals as goal

pub returns-in_err-first : goal.returns-in_err-first
returns-in_err-first c =
    let w = c.args.word.now in
    let p = err_from_is_err_and c.from_residual.result c.from_residual.ensures.1 in
    let column : 0 ≡ c.in_err-first.field-0.0.column = search rules in
    let none : length w ≡ 0 = search rules in
    rw (p.1, p.2) (subst (NoneReads gap_text w) column (no_digits w none))

pub returns-then-not-is_ascii_digit : goal.returns-then-not-is_ascii_digit
returns-then-not-is_ascii_digit c =
    let w = c.args.word.now in
    let inv = c.loop-column.invariant in
    let column : c.loop-column.column ≡ c.at.result.column = omega arith in
    subst (NoneReads gap_text w) column
    (other_byte w c.loop-column.column c.loop-column.gap c.loop-column-test.true inv.first inv.is inv.digits inv.small (λ d. search rules))

pub returns-in_err-gap : goal.returns-in_err-gap
returns-in_err-gap c =
    let w = c.args.word.now in
    let i = c.loop-column.column in
    let inv = c.loop-column.invariant in
    let digit = c.if-not-is_ascii_digit.ensures.cases in
    let p = err_from_is_err_and c.from_residual-in_err-gap.result c.from_residual-in_err-gap.ensures.1 in
    let column : i ≡ c.in_err-gap.field-0.0.column = search rules in
    let long : 2 ^ 32 ≤ c.loop-column.gap * 10 + (get_or w i 0 - 48) = search rules in
    rw (p.1, p.2) (subst (NoneReads gap_text w) column
    (too_long w i c.loop-column.gap c.loop-column-test.true inv.first inv.is inv.digits inv.small (omega (arith, long, value_turn w i c.loop-column.gap c.loop-column-test.true digit.0 digit.1 inv.is))))
