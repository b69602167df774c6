use Rattle.run_turns.proofs.ComingFurther.{comes_none}
use Rattle.run_shortcuts.proofs.fronts.read_escape.Goals as goal

pub returns-in-Some : goal.returns-in-Some
returns-in-Some g c = λ out err. c.take_run.ensures out err

pub returns-in_default : goal.returns-in_default
returns-in_default g c = λ out err. comes_none _ _ _ _
