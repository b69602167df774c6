use Rattle.law_diversions.proofs.diversion_laws.open_diversions.Goals as goal
use Rattle.law_diversions.proofs.OpenDiversions.{no_more_diversions_are_open}

pub returns : goal.returns
returns c = no_more_diversions_are_open
