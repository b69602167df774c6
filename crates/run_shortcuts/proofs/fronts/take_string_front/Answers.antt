use Rattle.run_shortcuts.proofs.Turned.{goes_past_turned}
use Rattle.run_shortcuts.proofs.fronts.take_string_front.Goals as goal

pub returns : goal.returns
returns g c = λ out err.
    let took = c.take_string_front.ensures in
    goes_past_turned _ _ _ _ _ _ out err c.args.run.now _ _ took.past took.notes took.failures
