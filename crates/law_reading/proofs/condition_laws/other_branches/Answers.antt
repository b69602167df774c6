use Rattle.law_reading.proofs.condition_laws.other_branches.Goals as goal
use Rattle.law_reading.proofs.BranchLaws.{else_of_the_source_takes_the_newest_result, else_takes_the_newest_result}

pub returns-clause-ahead : goal.returns-clause-ahead
returns-clause-ahead c = else_takes_the_newest_result

pub returns-clause-source : goal.returns-clause-source
returns-clause-source c = else_of_the_source_takes_the_newest_result
