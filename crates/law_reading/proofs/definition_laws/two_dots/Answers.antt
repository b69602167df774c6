use Rattle.law_reading.proofs.definition_laws.two_dots.Goals as goal
use Rattle.law_reading.proofs.DefinitionLaws.{lines_begin_behind_two_dots}

pub returns : goal.returns
returns c = lines_begin_behind_two_dots
