use Rattle.run_turns.proofs.ComingFurther.{comes_any, read_turn}
use Rattle.roff_engine.proofs.stepping.turn.Goals as goal

pub returns-then-has_open_escape : goal.returns-then-has_open_escape
returns-then-has_open_escape g c =
    rw c.untold.ensures (comes_any _ (read_turn c.args.run.now c.requires c.turn_half_read.ensures))

pub returns-else-has_open_escape : goal.returns-else-has_open_escape
returns-else-has_open_escape g c = c.turn_beginning.ensures
