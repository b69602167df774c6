use Rattle.law_runs.proofs.SpringLaws.{macros_are_read_first, names_without_a_body_read_nothing}
use Rattle.law_runs.proofs.spring_laws.sprung_macros.Goals as goal

pub returns-clause-read : goal.returns-clause-read
returns-clause-read c = macros_are_read_first

pub returns-clause-without_a_body : goal.returns-clause-without_a_body
returns-clause-without_a_body c = names_without_a_body_read_nothing
