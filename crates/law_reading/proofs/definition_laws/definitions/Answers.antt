use Rattle.law_reading.proofs.definition_laws.definitions.Goals as goal
use Rattle.law_reading.proofs.DefinitionLaws.{definitions_enter_their_lines, definitions_of_the_source_enter_their_lines}

pub returns-clause-ahead : goal.returns-clause-ahead
returns-clause-ahead c = definitions_enter_their_lines

pub returns-clause-source : goal.returns-clause-source
returns-clause-source c = definitions_of_the_source_enter_their_lines
