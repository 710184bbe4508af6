use Rattle.std.proofs.Common.{[], ◌∷◌, sym, refl, ◌∙◌}
use Rattle.report.proofs.Choosing.{some_of, none_of}
use Rattle.report.proofs.Followed.{passed_over, byte_held, word_whole_on}
use Rattle.report.proofs.run.Run.push.Goals as goal

pub returns-then-is_some : goal.returns-then-is_some
returns-then-is_some c text before f =
    let run = c.args.self.now in
    let some = some_of run.refused (sym c.is_some.ensures ∙ c.if-is_some.true) in
    passed_over text before (c.args.byte ∷ []) run some.0 some.1 f

pub returns-in-Some : goal.returns-in-Some
returns-in-Some c text before f =
    let run = c.args.self.now in
    let none = none_of run.refused (sym c.is_some.ensures ∙ c.if-is_some.false) in
    word_whole_on text before (c.args.byte ∷ []) run _ c.in-Some.word c.deliver-refused.result.0 none refl c.deliver-refused.ensures c.in-Some.ensures f

pub returns-in_default : goal.returns-in_default
returns-in_default c text before f =
    let run = c.args.self.now in
    let none = none_of run.refused (sym c.is_some.ensures ∙ c.if-is_some.false) in
    byte_held text before (c.args.byte ∷ []) run _ none none refl refl c.in_default.ensures f
