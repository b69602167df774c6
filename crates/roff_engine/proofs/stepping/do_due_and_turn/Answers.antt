use Rattle.std.proofs.Common.{false}
use Rattle.run_turns.proofs.ComingFurther.{comes_both, comes_due, comes_ended}
use Rattle.roff_engine.proofs.stepping.do_due_and_turn.Goals as goal

pub turn-requires : goal.turn-requires
turn-requires g c = (c.in-Ok.ensures 0 (g.O.ByteSink.sunk c.args.out.now)).none_due

pub returns-in-Ok : goal.returns-in-Ok
returns-in-Ok g c = comes_both false (comes_due _ _ (c.in-Ok.ensures _ _)) c.turn.ensures

pub returns-in-Err : goal.returns-in-Err
returns-in-Err g c = comes_ended (comes_due _ _ (c.in-Err.ensures _ _))
