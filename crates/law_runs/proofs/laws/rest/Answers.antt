use Rattle.law_runs.proofs.laws.rest.Goals as goal
use Rattle.law_runs.proofs.Taking.{each_item_is_taken_once, each_run_leaves_its_rest}

pub returns-clause-each_step : goal.returns-clause-each_step
returns-clause-each_step c = each_item_is_taken_once

pub returns-clause-whole_run : goal.returns-clause-whole_run
returns-clause-whole_run c = each_run_leaves_its_rest
