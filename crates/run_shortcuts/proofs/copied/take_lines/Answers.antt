use Rattle.run_shortcuts.proofs.PassingOn.{goes_further_copied}
use Rattle.run_shortcuts.proofs.copied.take_lines.Goals as goal

pub returns-clause-past : goal.returns-clause-past
returns-clause-past g c = λ out err.
    let took = c.take_lines.ensures in
    goes_further_copied _ _ _ _ _ _ _ out err c.args.run.now _ _ took.past took.on took.notes took.failures
