use Rattle.law_reading.proofs.BadConditions.{bad_numbers_are_told_and_false, bad_numbers_of_the_source_are_told_and_false}
use Rattle.law_reading.proofs.condition_laws.bad_numbers.Goals as goal

pub returns-clause-ahead : goal.returns-clause-ahead
returns-clause-ahead c = bad_numbers_are_told_and_false

pub returns-clause-source : goal.returns-clause-source
returns-clause-source c = bad_numbers_of_the_source_are_told_and_false
