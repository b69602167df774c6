use Rattle.law_reading.proofs.call_laws.read_arguments.Goals as goal
use Rattle.law_reading.proofs.WordCalls.{bodies_get_the_arguments_read, bodies_of_the_source_get_the_arguments_read}

pub returns-clause-ahead : goal.returns-clause-ahead
returns-clause-ahead c = bodies_get_the_arguments_read

pub returns-clause-source : goal.returns-clause-source
returns-clause-source c = bodies_of_the_source_get_the_arguments_read
