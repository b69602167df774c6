use Rattle.law_escapes.proofs.TextsInDefinitions.{definitions_enter_the_texts_read, definitions_of_the_source_enter_the_texts_read}
use Rattle.law_escapes.proofs.definition_laws.definitions_with_texts.Goals as goal

pub returns-clause-ahead : goal.returns-clause-ahead
returns-clause-ahead c = definitions_enter_the_texts_read

pub returns-clause-source : goal.returns-clause-source
returns-clause-source c = definitions_of_the_source_enter_the_texts_read
