use Rattle.roff_engine.proofs.laws.two_runs.Goals as goal
use Rattle.roff_engine.proofs.TwoRuns.{smaller_limits_write_a_beginning, same_unless_a_limit_stops, failing_sources_write_a_beginning, same_unless_the_source_fails, runs_can_be_repeated}

pub returns-clause-smaller_limits : goal.returns-clause-smaller_limits
returns-clause-smaller_limits c = smaller_limits_write_a_beginning

pub returns-clause-same_unless_a_limit : goal.returns-clause-same_unless_a_limit
returns-clause-same_unless_a_limit c = same_unless_a_limit_stops

pub returns-clause-failing_sources : goal.returns-clause-failing_sources
returns-clause-failing_sources c = failing_sources_write_a_beginning

pub returns-clause-same_unless_a_fault : goal.returns-clause-same_unless_a_fault
returns-clause-same_unless_a_fault c = same_unless_the_source_fails

pub returns-clause-repeated : goal.returns-clause-repeated
returns-clause-repeated c = runs_can_be_repeated
