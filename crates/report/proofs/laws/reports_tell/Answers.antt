use Rattle.report.proofs.Only.{one_report}
use Rattle.report.proofs.laws.reports_tell.Goals as goal

pub returns : goal.returns
returns c = one_report
