use Rattle.read_steps.proofs.half_read.read_in_condition.Goals as goal

pub returns-in-GoesOn : goal.returns-in-GoesOn
returns-in-GoesOn c = rw c.in-GoesOn.is c.read_in_arguments.ensures

pub returns-in-Holds : goal.returns-in-Holds
returns-in-Holds c = rw c.in-Holds.is c.read_in_arguments-in-Holds.ensures
