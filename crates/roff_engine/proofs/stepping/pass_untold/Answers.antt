use Rattle.run_turns.proofs.ComingFurther.{comes_none}
use Rattle.roff_engine.proofs.stepping.pass_untold.Goals as goal

pub returns-then-is_told : goal.returns-then-is_told
returns-then-is_told g c = comes_none _ _ _ _
