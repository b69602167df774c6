use Rattle.roff_engine.proofs.laws.outcomes.Goals as goal
use Rattle.roff_engine.proofs.Outcomes.{each_outcome_gives}

pub returns : goal.returns
returns c = each_outcome_gives
