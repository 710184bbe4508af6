use Rattle.std.proofs.Common.{◌≡◌, ◌-◌, length, Option, ap, ◌∙◌, arith}
use Rattle.stream.specs.declared.refusal.Refusal.{Refusal}
use Rattle.printout.specs.Lines.{stop_line, done_line}
use Rattle.stream.specs.Traces.{fed_by}
use Rattle.report.specs.Reports.{last_line}
use Rattle.report.proofs.Printed.{next_taken}
use Rattle.report.proofs.run.Run.last_line.Goals as goal

pub returns-in-Some : goal.returns-in-Some
returns-in-Some c text bytes f =
    c.stop-in-Some.ensures ∙ ap stop_line c.number.ensures ∙ ap (λ (o : Option Refusal). last_line o (length (fed_by bytes).samples)) (c.in-Some.ensures text bytes f)

pub returns-in-None : goal.returns-in-None
returns-in-None c text bytes f =
    let count : c.next_number.result - 1 ≡ length (fed_by bytes).samples = omega (arith, c.next_number.ensures.0, next_taken text bytes c.args.self.now f) in
    c.done.ensures ∙ ap done_line count ∙ ap (λ (o : Option Refusal). last_line o (length (fed_by bytes).samples)) (c.in-None.ensures text bytes f)
