use Rattle.law_runs.proofs.laws.appends.Goals as goal
use Rattle.law_runs.proofs.RunsAppend.{steps_only_append, each_state_is_a_beginning}

pub returns-clause-steps : goal.returns-clause-steps
returns-clause-steps c = steps_only_append

pub returns-clause-whole_run : goal.returns-clause-whole_run
returns-clause-whole_run c = each_state_is_a_beginning
