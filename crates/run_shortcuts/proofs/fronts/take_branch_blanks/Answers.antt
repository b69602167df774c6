use Rattle.run_shortcuts.proofs.Turned.{goes_past_turned}
use Rattle.run_shortcuts.proofs.fronts.take_branch_blanks.Goals as goal

pub returns-clause-past : goal.returns-clause-past
returns-clause-past g c = λ out err.
    let took = c.take_branch_blanks.ensures in
    goes_past_turned _ _ _ _ _ _ out err c.args.run.now _ _ took.past took.notes took.failures
