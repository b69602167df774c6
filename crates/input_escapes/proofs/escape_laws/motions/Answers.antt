use Rattle.input_escapes.proofs.TextsRead.{motion_read}
use Rattle.input_escapes.proofs.escape_laws.motions.Goals as goal

pub returns-clause-read : goal.returns-clause-read
returns-clause-read c = motion_read
