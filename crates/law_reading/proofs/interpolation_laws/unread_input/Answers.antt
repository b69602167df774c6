use Rattle.law_reading.proofs.Interpolation.{steps_follow_the_tape, unread_input_is_the_tape}
use Rattle.law_reading.proofs.interpolation_laws.unread_input.Goals as goal

pub returns-clause-tape : goal.returns-clause-tape
returns-clause-tape c = unread_input_is_the_tape

pub returns-clause-steps : goal.returns-clause-steps
returns-clause-steps c = steps_follow_the_tape
