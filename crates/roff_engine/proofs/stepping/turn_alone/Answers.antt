use Rattle.roff_engine.proofs.stepping.turn_alone.Goals as goal

pub returns-in_default : goal.returns-in_default
returns-in_default g c = rw c.untold.ensures c.turn_other.ensures
