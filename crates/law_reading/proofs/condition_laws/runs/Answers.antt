use Rattle.law_reading.proofs.condition_laws.runs.Goals as goal
use Rattle.law_reading.proofs.Skipping.{runs_pass_over_skipped_branches}

pub returns : goal.returns
returns c = runs_pass_over_skipped_branches
