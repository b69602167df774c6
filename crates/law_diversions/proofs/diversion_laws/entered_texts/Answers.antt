use Rattle.law_diversions.proofs.diversion_laws.entered_texts.Goals as goal
use Rattle.law_diversions.proofs.DivertedRuns.{ended_diversions_are_entered}

pub returns : goal.returns
returns c = ended_diversions_are_entered
