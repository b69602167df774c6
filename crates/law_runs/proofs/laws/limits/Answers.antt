use Rattle.law_runs.proofs.laws.limits.Goals as goal
use Rattle.law_runs.proofs.RunsOnlyCut.{limits_only_cut, same_until_a_limit}
use Rattle.law_runs.proofs.ResultsOnlyCut.{limits_cut_results, same_result_without_a_limit}

pub returns-clause-beginning : goal.returns-clause-beginning
returns-clause-beginning c = limits_only_cut

pub returns-clause-same_until_a_limit : goal.returns-clause-same_until_a_limit
returns-clause-same_until_a_limit c = same_until_a_limit

pub returns-clause-result : goal.returns-clause-result
returns-clause-result c = limits_cut_results

pub returns-clause-same_result : goal.returns-clause-same_result
returns-clause-same_result c = same_result_without_a_limit
