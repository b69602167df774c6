use Rattle.law_reading.proofs.CutNames.{nameless_characters_are_told, nameless_characters_of_the_source_are_told, nameless_escapes_of_the_source_read_as_nothing, nameless_escapes_read_as_nothing}
use Rattle.law_reading.proofs.interpolation_laws.nameless_escapes.Goals as goal

pub returns-clause-ahead : goal.returns-clause-ahead
returns-clause-ahead c = nameless_escapes_read_as_nothing

pub returns-clause-source : goal.returns-clause-source
returns-clause-source c = nameless_escapes_of_the_source_read_as_nothing

pub returns-clause-character : goal.returns-clause-character
returns-clause-character c = nameless_characters_are_told

pub returns-clause-character_of_the_source : goal.returns-clause-character_of_the_source
returns-clause-character_of_the_source c = nameless_characters_of_the_source_are_told
