use Rattle.law_runs.proofs.laws.ends.Goals as goal
use Rattle.law_runs.proofs.Endings.{every_run_ends, steps_lead_to_the_last_state, no_other_state_is_last}

pub returns-clause-ends : goal.returns-clause-ends
returns-clause-ends c = every_run_ends

pub returns-clause-reached : goal.returns-clause-reached
returns-clause-reached c = steps_lead_to_the_last_state

pub returns-clause-alone : goal.returns-clause-alone
returns-clause-alone c = no_other_state_is_last
