use Rattle.std.proofs.Common.{◌≡◌, ◌+◌, ◌*◌, ◌++◌, drop}
use Rattle.terms_watch.specs.Stories.{term_at}
use Rattle.report.specs.Reports.{printed, notice_lines}
use Rattle.report.specs.Runs.{bytes_on}
use Rattle.report.proofs.page.Page.put_notices.Given as goal

abbrev pub invariant-loop-notice : goal.invariant-loop-notice
invariant-loop-notice l =
    (bytes_on l.self ++ printed (notice_lines (term_at l.terms) (drop l.notice-index l.notices))
    ≡ bytes_on l.initial.self ++ printed (notice_lines (term_at l.terms) l.notices))
    × (l.self.len ≡ l.initial.self.len + 18 * l.notice-index)
