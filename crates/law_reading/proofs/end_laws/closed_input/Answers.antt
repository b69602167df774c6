use Rattle.law_reading.proofs.EndLaws.{ex_closes_the_input, ex_is_ignored_as_the_run_closes}
use Rattle.law_reading.proofs.end_laws.closed_input.Goals as goal

pub returns-clause-closes : goal.returns-clause-closes
returns-clause-closes c = ex_closes_the_input

pub returns-clause-ignored : goal.returns-clause-ignored
returns-clause-ignored c = ex_is_ignored_as_the_run_closes
