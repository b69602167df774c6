use Rattle.law_escapes.proofs.TextsInStrings.{strings_are_the_texts_read, strings_of_the_source_are_the_texts_read}
use Rattle.law_escapes.proofs.string_laws.strings_with_texts.Goals as goal

pub returns-clause-ahead : goal.returns-clause-ahead
returns-clause-ahead c = strings_are_the_texts_read

pub returns-clause-source : goal.returns-clause-source
returns-clause-source c = strings_of_the_source_are_the_texts_read
