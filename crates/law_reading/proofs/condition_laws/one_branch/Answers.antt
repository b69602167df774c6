use Rattle.law_reading.proofs.condition_laws.one_branch.Goals as goal
use Rattle.law_reading.proofs.BranchLaws.{exactly_one_branch_is_read, exactly_one_branch_of_the_source_is_read, one_branch_of_an_expression_is_read, one_branch_of_an_expression_of_the_source_is_read}

pub returns-clause-ahead : goal.returns-clause-ahead
returns-clause-ahead c = exactly_one_branch_is_read

pub returns-clause-source : goal.returns-clause-source
returns-clause-source c = exactly_one_branch_of_the_source_is_read

pub returns-clause-expression : goal.returns-clause-expression
returns-clause-expression c = one_branch_of_an_expression_is_read

pub returns-clause-expression_source : goal.returns-clause-expression_source
returns-clause-expression_source c = one_branch_of_an_expression_of_the_source_is_read
