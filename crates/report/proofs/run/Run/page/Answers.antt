use Rattle.std.proofs.Common.{◌≡◌, ℕ, ◌-◌, List, take, refl, ap, ◌∙◌, arith}
use Rattle.watch.specs.declared.notice.Notice.{Notice}
use Rattle.terms_watch.specs.Stories.{term_at}
use Rattle.report.specs.Reports.{notice_lines, page_of}
use Rattle.report.proofs.Printed.{lines_page, all_listed, told}
use Rattle.report.proofs.run.Run.page.Goals as goal

pub returns : goal.returns
returns c text bytes f =
    let run = c.args.self.now in
    let term = term_at run.terms in
    let written = c.list-written.result.0 in
    let listed = c.list-written.ensures.listed in
    let slice = take (written - 0) c.list-written.new.out in
    let same : written - 0 ≡ written = omega arith in
    let whole : slice ≡ listed.notices = ap (λ (n : ℕ). take n c.list-written.new.out) same ∙ all_listed _ _ _ _ _ _ listed refl c.list-written.ensures.few.1 in
    told text bytes run c.args.end _ listed.notices f listed.right
    (lines_page term slice c.last_line.result _ _ _ c.new-page.ensures.line c.put_notices.ensures.lines c.put.ensures.line
    ∙ ap (λ (ns : List Notice). page_of (notice_lines term ns) c.last_line.result) whole
    ∙ ap (page_of (notice_lines term listed.notices)) (c.last_line.ensures text bytes f))
