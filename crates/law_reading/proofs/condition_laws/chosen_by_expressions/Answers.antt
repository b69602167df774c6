use Rattle.law_reading.proofs.condition_laws.chosen_by_expressions.Goals as goal
use Rattle.law_reading.proofs.AskingLaws.{expressions_choose_their_branch, expressions_of_the_source_choose_their_branch}

pub returns-clause-ahead : goal.returns-clause-ahead
returns-clause-ahead c = expressions_choose_their_branch

pub returns-clause-source : goal.returns-clause-source
returns-clause-source c = expressions_of_the_source_choose_their_branch
