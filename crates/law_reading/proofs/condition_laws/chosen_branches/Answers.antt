use Rattle.law_reading.proofs.condition_laws.chosen_branches.Goals as goal
use Rattle.law_reading.proofs.AskingLaws.{conditions_choose_their_branch, conditions_of_the_source_choose_their_branch}

pub returns-clause-ahead : goal.returns-clause-ahead
returns-clause-ahead c = conditions_choose_their_branch

pub returns-clause-source : goal.returns-clause-source
returns-clause-source c = conditions_of_the_source_choose_their_branch
