use Rattle.law_escapes.proofs.TextsInCalls.{bodies_get_the_texts_read, bodies_of_the_source_get_the_texts_read}
use Rattle.law_escapes.proofs.call_laws.called_with_texts.Goals as goal

pub returns-clause-ahead : goal.returns-clause-ahead
returns-clause-ahead c = bodies_get_the_texts_read

pub returns-clause-source : goal.returns-clause-source
returns-clause-source c = bodies_of_the_source_get_the_texts_read
