use Rattle.law_escapes.proofs.MessageLines.{messages_tell_what_is_read}
use Rattle.law_escapes.proofs.message_laws.interpolated_messages.Goals as goal

pub returns : goal.returns
returns c = messages_tell_what_is_read
