use Rattle.std.proofs.Common.{◌≡◌, ◌++◌, length, take, drop, ap, ◌∙◌, arith, length-drop, length-take}
use Rattle.printout.specs.Lines.{field}
use Rattle.printout.proofs.Parts.{put_end}
use Rattle.printout.proofs.put_number.Goals as goal

pub returns : goal.returns
returns c =
    let wide : length (take 12 (drop 5 c.args.line.now)) ≡ 12 = simp (length-take, length-drop) (omega arith) in
    put_end c.args.line.now c.write_right.new.out 5 12 (omega arith) ∙ ap (λ l. take 5 c.args.line.now ++ l) (c.write_right.ensures ∙ ap (λ w. field w c.args.number) wide)
