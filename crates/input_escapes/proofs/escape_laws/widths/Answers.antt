use Rattle.input_escapes.proofs.TextsRead.{width_read}
use Rattle.input_escapes.proofs.escape_laws.widths.Goals as goal

pub returns : goal.returns
returns c = width_read
