use Rattle.tbl_run.proofs.Endings.{each_step_is_a_beginning, every_run_ends, no_other_state_is_last}
use Rattle.tbl_run.proofs.laws.ends.Goals as goal

pub returns-clause-each : goal.returns-clause-each
returns-clause-each c = every_run_ends

pub returns-clause-only : goal.returns-clause-only
returns-clause-only c = no_other_state_is_last

pub returns-clause-beginnings : goal.returns-clause-beginnings
returns-clause-beginnings c = each_step_is_a_beginning
