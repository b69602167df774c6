use Rattle.law_reading.proofs.MessageLaws.{messages_are_their_texts}
use Rattle.law_reading.proofs.message_laws.messages.Goals as goal

pub returns : goal.returns
returns c = messages_are_their_texts
