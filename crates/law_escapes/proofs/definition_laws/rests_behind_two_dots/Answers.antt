use Rattle.law_escapes.proofs.DroppedRests.{rests_behind_two_dots_are_dropped, rests_of_the_source_behind_two_dots_are_dropped}
use Rattle.law_escapes.proofs.definition_laws.rests_behind_two_dots.Goals as goal

pub returns-clause-ahead : goal.returns-clause-ahead
returns-clause-ahead c = rests_behind_two_dots_are_dropped

pub returns-clause-source : goal.returns-clause-source
returns-clause-source c = rests_of_the_source_behind_two_dots_are_dropped
