use Rattle.law_runs.proofs.RegisterLaws.{removed_read_as_zero}
use Rattle.law_runs.proofs.register_laws.removed_registers.Goals as goal

pub returns-clause-zero : goal.returns-clause-zero
returns-clause-zero c = removed_read_as_zero
