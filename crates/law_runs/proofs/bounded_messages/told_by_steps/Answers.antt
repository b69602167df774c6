use Rattle.law_runs.proofs.bounded_messages.told_by_steps.Goals as goal
use Rattle.law_runs.proofs.MessagesAreFew.{each_run_tells_few, great_limit_stops_nothing, messages_are_few}
use Rattle.law_runs.proofs.StepsTellLittle.{each_step_tells_little}

pub returns-clause-little : goal.returns-clause-little
returns-clause-little c = each_step_tells_little

pub returns-clause-few : goal.returns-clause-few
returns-clause-few c = messages_are_few

pub returns-clause-whole : goal.returns-clause-whole
returns-clause-whole c = each_run_tells_few

pub returns-clause-great : goal.returns-clause-great
returns-clause-great c = great_limit_stops_nothing
