use Rattle.law_reading.proofs.definition_laws.ignored_lines.Goals as goal
use Rattle.law_reading.proofs.DefinitionLaws.{ignored_lines_enter_nothing, ignored_lines_of_the_source_enter_nothing}

pub returns-clause-ahead : goal.returns-clause-ahead
returns-clause-ahead c = ignored_lines_enter_nothing

pub returns-clause-source : goal.returns-clause-source
returns-clause-source c = ignored_lines_of_the_source_enter_nothing
