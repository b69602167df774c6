use Rattle.run_turns.proofs.ComingFurther.{comes_none}
use Rattle.run_shortcuts.proofs.fronts.tell_on.Goals as goal

pub returns-in_default : goal.returns-in_default
returns-in_default g c = λ out err. comes_none _ _ _ _

pub returns-in_default-2 : goal.returns-in_default-2
returns-in_default-2 g c = λ out err. comes_none _ _ _ _
