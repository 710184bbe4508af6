use Rattle.std.proofs.Common.{◌≡◌, ◌<◌, Some, ap, ◌∙◌, subst}
use Rattle.stream.specs.Signals.{bare_signal}
use Rattle.stream.proofs.Same.{same_letter}
use Rattle.stream.proofs.signal.Signal.letter.Goals as goal

pub returns-clause-value : goal.returns-clause-value
returns-clause-value c =
    let l = c.in_ok-new.field-0 in
    let e : l.bit ≡ c.args.bit = c.in_ok-new.ensures in
    let low : c.args.bit < 24 = subst (λ b. b < 24) e l.low in
    (low, c.bare.ensures ∙ ap (λ z. bare_signal (Some z)) (same_letter l (record { bit = c.args.bit; low = low }) e))
