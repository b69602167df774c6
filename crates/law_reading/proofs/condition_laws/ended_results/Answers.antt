use Rattle.law_reading.proofs.condition_laws.ended_results.Goals as goal
use Rattle.law_reading.proofs.BranchLaws.{results_end_with_their_body}

pub returns : goal.returns
returns c = results_end_with_their_body
