use Rattle.std.proofs.Common.{◌≡◌, ◌-◌, length, take, replicate, ap, ◌∙◌, arith, length-take}
use Rattle.stream.specs.Sending.{full_gap}
use Rattle.stream.proofs.Sends.{put_done}
use Rattle.stream.proofs.sender.put_words.Goals as goal

pub returns : goal.returns
returns c =
    let part : length (take (c.args.fulls - 0) c.args.out.now) ≡ c.args.fulls = simp length-take (omega arith) in
    put_done c.args.fulls c.args.rest c.args.letters c.args.out.now _ c.from.ensures c.fill.new.self
    (c.fill.ensures.after (λ y h. h) ∙ ap (λ k. replicate k full_gap) part) c.if-out-gaps.false
