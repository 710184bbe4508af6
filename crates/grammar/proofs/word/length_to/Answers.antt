use Rattle.std.proofs.Common.{eqb, length, ap, ◌∙◌, rules, tests}
use Rattle.std.specs.Option.{unwrap_or}
use Rattle.std.proofs.lemmas.Iterator.{YieldsList-from_slice}
use Rattle.std.proofs.lemmas.Iterator.Search.{position_from_yields_List}
use Rattle.grammar.proofs.Cuts.{length-up_to}
use Rattle.grammar.proofs.word.length_to.Goals as goal

pub returns-clause-long : goal.returns-clause-long
returns-clause-long c =
    let found = position_from_yields_List (λ b. eqb b c.args.stop) _ _ c.position.result c.position.ensures.ran (YieldsList-from_slice c.args.s.now c.iter.ensures.rest) (λ x b q k. search (rules, tests)) in
    c.unwrap_or.ensures ∙ ap (λ o. unwrap_or o (length c.args.s.now)) found ∙ length-up_to c.args.stop c.args.s.now
