use Rattle.law_reading.proofs.BadConditions.{empty_conditions_are_false, empty_conditions_of_the_source_are_false}
use Rattle.law_reading.proofs.condition_laws.empty_conditions.Goals as goal

pub returns-clause-ahead : goal.returns-clause-ahead
returns-clause-ahead c = empty_conditions_are_false

pub returns-clause-source : goal.returns-clause-source
returns-clause-source c = empty_conditions_of_the_source_are_false
