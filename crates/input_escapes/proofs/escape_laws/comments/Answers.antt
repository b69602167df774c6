use Rattle.input_escapes.proofs.NamesRead.{comment_read}
use Rattle.input_escapes.proofs.escape_laws.comments.Goals as goal

pub returns : goal.returns
returns c = comment_read
