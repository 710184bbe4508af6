use Rattle.cases.proofs.Passing.{marked_cases}
use Rattle.cases.proofs.marked_cases.Goals as goal

pub returns : goal.returns
returns c = marked_cases
