use Rattle.report.proofs.Readers.{front_reports}
use Rattle.report.proofs.laws.fronts_tell.Goals as goal

pub returns : goal.returns
returns c = front_reports
