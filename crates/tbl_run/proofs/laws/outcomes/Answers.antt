use Rattle.tbl_run.proofs.Outcomes.{each_outcome_gives}
use Rattle.tbl_run.proofs.laws.outcomes.Goals as goal

pub returns : goal.returns
returns c = each_outcome_gives
