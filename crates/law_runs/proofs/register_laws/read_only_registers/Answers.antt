use Rattle.law_runs.proofs.RegisterLaws.{read_only_stay, read_only_are_left_alone}
use Rattle.law_runs.proofs.register_laws.read_only_registers.Goals as goal

pub returns-clause-stay : goal.returns-clause-stay
returns-clause-stay c = read_only_stay

pub returns-clause-left_alone : goal.returns-clause-left_alone
returns-clause-left_alone c = read_only_are_left_alone
