use Rattle.law_runs.proofs.laws.cut.Goals as goal
use Rattle.law_runs.proofs.RunsOnlyCut.{failing_only_cuts, same_until_the_fault}
use Rattle.law_runs.proofs.ResultsOnlyCut.{failing_cuts_results, same_result_before_the_fault}

pub returns-clause-beginning : goal.returns-clause-beginning
returns-clause-beginning c = failing_only_cuts

pub returns-clause-same_until_the_fault : goal.returns-clause-same_until_the_fault
returns-clause-same_until_the_fault c = same_until_the_fault

pub returns-clause-result : goal.returns-clause-result
returns-clause-result c = failing_cuts_results

pub returns-clause-same_result : goal.returns-clause-same_result
returns-clause-same_result c = same_result_before_the_fault
