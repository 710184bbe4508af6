use Rattle.std.proofs.Common.{◌≡◌, ◌-◌, ◌++◌, length, take, drop, replicate, ap, ◌∙◌, arith, length-drop}
use Rattle.std.proofs.lemmas.List.{take_all, take-replicate}
use Rattle.printout.proofs.Parts.{put_end}
use Rattle.printout.proofs.write_right.Goals as goal

-- the blanks stay of what was filled, and the digits that fit lie behind them
pub returns : goal.returns
returns c =
    let w = length c.args.out.now in
    let digits = c.as_bytes-digits.result.now in
    let blank = c.saturating_sub-blank.result in
    let cut = c.saturating_sub-cut.result in
    let spaces : c.fill.new.self ≡ replicate w 32 = c.fill.ensures.after (λ y e. e) in
    let blanks : take blank (replicate w 32) ≡ replicate blank 32 = take-replicate blank w 32 (omega (arith, c.saturating_sub-blank.ensures)) in
    let last = take_all (length digits - cut) (drop cut digits) (simp length-drop (omega arith)) in
    let whole : drop cut digits ≡ drop (length digits - w) digits = ap (λ k. drop k digits) c.saturating_sub-cut.ensures in
    let narrow = ap (λ k. replicate k 32 ++ drop (length digits - w) digits) c.saturating_sub-blank.ensures in
    put_end c.fill.new.self c.copy_from_slice.new.self blank _ (omega arith)
    ∙ (λ i. take blank (spaces i) ++ (c.copy_from_slice.ensures.after ∙ last ∙ whole) i)
    ∙ ap (λ l. l ++ drop (length digits - w) digits) blanks ∙ narrow
    ∙ ap (λ l. replicate (w - length l) 32 ++ drop (length l - w) l) (c.as_bytes-digits.ensures.value ∙ c.format.ensures.text)
