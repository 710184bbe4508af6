use Rattle.std.proofs.Common.{◌≡◌, None, refl, sym, ap, ◌∙◌, rules}
use Rattle.stream.specs.Signals.{negated_signal}
use Rattle.monitor.specs.declared.pattern.Pattern.TheVariants.{Never}
use Rattle.grammar.specs.Unread.{unread_line}
use Rattle.grammar.proofs.Same.{clause_is}
use Rattle.grammar.proofs.tree.LineDefault.default.Goals as goal

pub returns : goal.returns
returns c =
    let n : c.unwrap.result ≡ unread_line.number = clause_is 1 c.unwrap.result (search rules) ∙ sym (clause_is 1 unread_line.number refl) in
    let p = c.negated-p.ensures.value ∙ ap negated_signal c.every.ensures.value in
    λ i. record { number = n i; first = record { after = None; pattern = Never (p i) }; second = None; allow = None }
