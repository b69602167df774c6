use Rattle.law_reading.proofs.condition_laws.skipped_branches.Goals as goal
use Rattle.law_reading.proofs.Skipping.{skipped_branches_do_nothing, branches_are_skipped_to_their_end}

pub returns-clause-nothing : goal.returns-clause-nothing
returns-clause-nothing c = skipped_branches_do_nothing

pub returns-clause-to_their_end : goal.returns-clause-to_their_end
returns-clause-to_their_end c = branches_are_skipped_to_their_end
