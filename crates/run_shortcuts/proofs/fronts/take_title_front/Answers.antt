use Rattle.run_shortcuts.proofs.TitleRuns.{goes_past_title}
use Rattle.run_shortcuts.proofs.fronts.take_title_front.Goals as goal

pub returns : goal.returns
returns g c = λ out err.
    let took = c.take_title_front.ensures in
    goes_past_title _ _ _ _ _ _ out err c.args.run.now _ _ took.past took.notes took.failures
