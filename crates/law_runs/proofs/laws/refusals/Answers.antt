use Rattle.law_runs.proofs.RefusedSteps.{refused_steps_do_nothing}
use Rattle.law_runs.proofs.laws.refusals.Goals as goal

pub returns : goal.returns
returns c = refused_steps_do_nothing
