use Rattle.law_runs.proofs.RegisterLaws.{values_read_back, formats_read_back, formats_stay}
use Rattle.law_runs.proofs.register_laws.set_registers.Goals as goal

pub returns-clause-values : goal.returns-clause-values
returns-clause-values c = values_read_back

pub returns-clause-formats : goal.returns-clause-formats
returns-clause-formats c = formats_read_back

pub returns-clause-format_stays : goal.returns-clause-format_stays
returns-clause-format_stays c = formats_stay
