use Rattle.law_reading.proofs.call_laws.unknown_names.Goals as goal
use Rattle.law_reading.proofs.UnknownNames.{unknown_names_do_nothing, unknown_names_of_the_source_do_nothing}

pub returns-clause-ahead : goal.returns-clause-ahead
returns-clause-ahead c = unknown_names_do_nothing

pub returns-clause-source : goal.returns-clause-source
returns-clause-source c = unknown_names_of_the_source_do_nothing
