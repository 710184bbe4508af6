use Rattle.std.proofs.Common.{◌+◌, ◌++◌, take, replicate, ap, ◌∙◌}
use Rattle.printout.specs.Lines.{field}
use Rattle.printout.proofs.Parts.{length_field, keep_one}
use Rattle.printout.proofs.notice.Goals as goal

pub returns : goal.returns
returns c =
    let wide = ap (λ k. k + 1) (length_field 4 c.args.term) in
    c.put_number.ensures
    ∙ ap (λ l. take 5 (l ++ replicate 13 32) ++ field 12 c.args.number) (c.write_right.ensures ∙ ap (field 4) c.from.ensures)
    ∙ keep_one (field 4 c.args.term) (replicate 12 32) (field 12 c.args.number) 32 5 wide
