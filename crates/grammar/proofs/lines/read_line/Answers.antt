use Rattle.std.proofs.Common.{◌<◌, ◌≤◌, length, sym, refl, ap, ◌∙◌, arith, rules}
use Rattle.std.proofs.lemmas.Result.{err_from_is_err_and}
use Rattle.grammar.specs.Contract.{fault_of}
use Rattle.grammar.proofs.LineAnswers.{map_err_is, no_clause, got_clause, low_clause, terms_read}
use Rattle.grammar.proofs.lines.read_line.Goals as goal

pub returns-in_err-number : goal.returns-in_err-number
returns-in_err-number c =
    let m = map_err_is (fault_of c.args.start) c.clause.result c.map_err.result c.map_err.ensures.cases (λ e f q. search rules) in
    let p = err_from_is_err_and c.from_residual.result c.from_residual.ensures.1 in
    rw (p.1, p.2) (no_clause c.args.last c.args.line.now c.args.start _ c.clause.result c.clause.ensures.answer c.clause.ensures.place _ (sym c.in_err-number.was ∙ m))

pub returns-then-get-last : goal.returns-then-get-last
returns-then-get-last c =
    let m = map_err_is (fault_of c.args.start) c.clause.result c.map_err.result c.map_err.ensures.cases (λ e f q. search rules) in
    let low : c.in_ok-number.number.value ≤ c.args.last = omega (arith, c.get.ensures, c.if-get-last.true) in
    (refl, low_clause c.args.last c.args.line.now c.in_ok-number.number _ (got_clause c.args.last c.args.line.now c.args.start _ c.clause.result c.clause.ensures.answer _ (sym c.in_ok-number.was ∙ m)) low)

pub returns : goal.returns
returns c =
    let m = map_err_is (fault_of c.args.start) c.clause.result c.map_err.result c.map_err.ensures.cases (λ e f q. search rules) in
    let up : c.args.last < c.in_ok-number.number.value = omega (arith, c.get.ensures, c.if-get-last.false) in
    let n = map_err_is (fault_of c.args.start) c.terms.result c.map_err-2.result c.map_err-2.ensures.cases (λ e f q. search rules) in
    let g = got_clause c.args.last c.args.line.now c.args.start _ c.clause.result c.clause.ensures.answer _ (sym c.in_ok-number.was ∙ m) in
    rw n (terms_read c.args.last c.args.line.now c.args.start c.in_ok-number.number _ g up _ _ c.terms.result (ap (λ r. length r.now) c.clause.ensures.kept) c.terms.ensures.answer c.terms.ensures.place)
