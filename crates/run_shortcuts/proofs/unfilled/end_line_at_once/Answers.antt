use Rattle.run_turns.proofs.ComingFurther.{comes_none}
use Rattle.run_shortcuts.proofs.unfilled.end_line_at_once.Goals as goal

pub returns-then-not-puts_lines-clause-ends : goal.returns-then-not-puts_lines-clause-ends
returns-then-not-puts_lines-clause-ends g c = comes_none _ _ _ _
