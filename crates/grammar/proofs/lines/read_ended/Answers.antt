use Rattle.std.proofs.Common.{◌+◌, ap, ◌∙◌, false-eqb, arith}
use Rattle.std.proofs.lemmas.Result.{err_from_is_err_and}
use Rattle.grammar.specs.Books.{last_from}
use Rattle.grammar.proofs.Texts.{start_is, in_line, turn, done}
use Rattle.grammar.proofs.lines.read_ended.Goals as goal

pub returns-in_err-read_line : goal.returns-in_err-read_line
returns-in_err-read_line c =
    let i = c.loop-line.invariant in
    let cut = c.in-Some.ensures in
    let last = c.last_number.ensures ∙ ap (last_from 0) c.deref.ensures.0 in
    let p = err_from_is_err_and c.from_residual.result c.from_residual.ensures.1 in
    rw (p.1, p.2) (in_line c.args.text.now c.requires c.loop-line.lines.items c.loop-line.rest.now i.sofar _ _ cut.0 cut.1 i.few c.if-is_full.ensures.value _ (λ j. record { line = c.len.ensures.value j + 1; byte = start_is c.args.text.now c.loop-line.lines.items c.loop-line.rest.now i.sofar j }) _ last c.in_err-read_line.field-0.0 c.in_err-read_line.ensures)

pub loop-line-preserved : goal.loop-line-preserved
loop-line-preserved c =
    let i = c.loop-line.invariant in
    let cut = c.in-Some.ensures in
    let last = c.last_number.ensures ∙ ap (last_from 0) c.deref.ensures.0 in
    let next = turn c.args.text.now c.requires c.loop-line.lines.items c.loop-line.rest.now i.sofar _ _ cut.0 cut.1 c.in_ok-read_line.field-0 _ last c.in_ok-read_line.ensures in
    record { few = (let other = false-eqb _ 64 c.if-is_full.ensures.value in omega (arith, i.few, c.push.ensures.len)); sofar = rw c.push.ensures.items next }

pub returns : goal.returns
returns c = let i = c.loop-line.invariant in done c.args.text.now c.loop-line.lines.items c.loop-line.rest.now c.requires i.sofar c.in_default.ensures i.few
