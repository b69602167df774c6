use Rattle.run_shortcuts.proofs.passing.take_bytes.Goals as goal

pub returns-in_default : goal.returns-in_default
returns-in_default g c = λ out err. c.take_run.ensures out err
