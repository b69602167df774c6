use Rattle.law_runs.proofs.laws.statuses.Goals as goal
use Rattle.law_runs.proofs.StatusesTell.{each_status_tells}

pub returns : goal.returns
returns c = each_status_tells
