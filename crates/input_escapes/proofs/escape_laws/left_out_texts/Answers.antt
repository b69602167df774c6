use Rattle.input_escapes.proofs.TextsRead.{left_out_read}
use Rattle.input_escapes.proofs.escape_laws.left_out_texts.Goals as goal

pub returns : goal.returns
returns c = left_out_read
