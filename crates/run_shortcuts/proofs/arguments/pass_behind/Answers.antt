use Rattle.run_turns.proofs.ComingFurther.{comes_none}
use Rattle.run_shortcuts.proofs.arguments.pass_behind.Goals as goal

pub returns-in-Newline : goal.returns-in-Newline
returns-in-Newline g c = comes_none _ _ _ _

pub returns-in-Other : goal.returns-in-Other
returns-in-Other g c = comes_none _ _ _ _
