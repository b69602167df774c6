use Rattle.law_runs.proofs.TrapLaws.{macros_find_the_rest_of_the_page, one_event_springs_one_macro}
use Rattle.law_runs.proofs.trap_laws.traps.Goals as goal

pub returns-clause-one : goal.returns-clause-one
returns-clause-one c = one_event_springs_one_macro

pub returns-clause-rest : goal.returns-clause-rest
returns-clause-rest c = macros_find_the_rest_of_the_page
