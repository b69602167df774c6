use Rattle.law_reading.proofs.call_laws.called_with_words.Goals as goal
use Rattle.law_reading.proofs.WordCalls.{bodies_get_words, bodies_of_the_source_get_words}

pub returns-clause-ahead : goal.returns-clause-ahead
returns-clause-ahead c = bodies_get_words

pub returns-clause-source : goal.returns-clause-source
returns-clause-source c = bodies_of_the_source_get_words
