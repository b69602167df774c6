use Rattle.law_escapes.proofs.TextsInMessages.{runs_end_with_the_texts_of_the_source, runs_end_with_the_texts_read}
use Rattle.law_escapes.proofs.message_laws.last_messages.Goals as goal

pub returns-clause-ahead : goal.returns-clause-ahead
returns-clause-ahead c = runs_end_with_the_texts_read

pub returns-clause-source : goal.returns-clause-source
returns-clause-source c = runs_end_with_the_texts_of_the_source
