use Rattle.std.proofs.Common.{get_or, subst, rules, take_all}
use Rattle.std.proofs.lemmas.List.{take_more}
use Rattle.std.specs.List.{AllZip}
use Rattle.book.specs.Clauses.{Says}
use Rattle.book.proofs.Made.{zip_push, holds_all}
use Rattle.book.proofs.book.Book.of.Goals as goal

pub loop-line-preserved : goal.loop-line-preserved
loop-line-preserved c =
    let ls = c.args.lines.now in
    let i = c.loop-line.line-index in
    let z = c.line-item.result in (
      search rules,
      rw (take_more ls i z c.loop-line-test.true, c.push.ensures.items)
          (zip_push Says _ _ (get_or ls i z) c.from.result c.loop-line.invariant.1 (subst (λ line. Says line c.from.result) c.line-item.is c.from.ensures)),
    )

pub returns : goal.returns
returns c =
    let ls = c.args.lines.now in
    let i = c.loop-line.line-index in
    holds_all _ ls (subst (λ xs. AllZip Says xs c.loop-line.clauses.items) (take_all i ls c.loop-line-test.false) c.loop-line.invariant.1)
