use Rattle.law_reading.proofs.interpolation_laws.costs.Goals as goal
use Rattle.law_reading.proofs.Interpolation.{texts_cost_their_bytes_and_one}

pub returns-clause-texts : goal.returns-clause-texts
returns-clause-texts c = texts_cost_their_bytes_and_one
