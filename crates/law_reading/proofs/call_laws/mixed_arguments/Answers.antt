use Rattle.law_reading.proofs.MixedArguments.{bodies_get_mixed_arguments, bodies_of_the_source_get_mixed_arguments, mixed_arguments_read_back}
use Rattle.law_reading.proofs.call_laws.mixed_arguments.Goals as goal

pub returns-clause-read_back : goal.returns-clause-read_back
returns-clause-read_back c = mixed_arguments_read_back

pub returns-clause-ahead : goal.returns-clause-ahead
returns-clause-ahead c = bodies_get_mixed_arguments

pub returns-clause-source : goal.returns-clause-source
returns-clause-source c = bodies_of_the_source_get_mixed_arguments
