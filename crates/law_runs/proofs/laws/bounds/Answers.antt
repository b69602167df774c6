use Rattle.law_runs.proofs.laws.bounds.Goals as goal
use Rattle.law_runs.proofs.RunsStayWithin.{no_limit_is_passed}
use Rattle.law_runs.proofs.TitlesStayWithin.{no_title_is_longer}

pub returns-clause-counts : goal.returns-clause-counts
returns-clause-counts c = no_limit_is_passed

pub returns-clause-titles : goal.returns-clause-titles
returns-clause-titles c = no_title_is_longer
