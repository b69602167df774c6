use Rattle.law_runs.proofs.RegisterLaws.{undefined_read_as_zero, reading_makes_none, reading_is_silent}
use Rattle.law_runs.proofs.register_laws.undefined_registers.Goals as goal

pub returns-clause-zero : goal.returns-clause-zero
returns-clause-zero c = undefined_read_as_zero

pub returns-clause-none_made : goal.returns-clause-none_made
returns-clause-none_made c = reading_makes_none

pub returns-clause-silent : goal.returns-clause-silent
returns-clause-silent c = reading_is_silent
