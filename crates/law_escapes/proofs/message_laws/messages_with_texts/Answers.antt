use Rattle.law_escapes.proofs.TextsInMessages.{messages_of_the_source_tell_the_texts_read, messages_tell_the_texts_read}
use Rattle.law_escapes.proofs.message_laws.messages_with_texts.Goals as goal

pub returns-clause-ahead : goal.returns-clause-ahead
returns-clause-ahead c = messages_tell_the_texts_read

pub returns-clause-source : goal.returns-clause-source
returns-clause-source c = messages_of_the_source_tell_the_texts_read
