use Rattle.tbl_text.proofs.KeptWords.{lie_joined}
use Rattle.tbl_text.proofs.block_laws.joined_lines.Goals as goal

pub returns : goal.returns
returns c = lie_joined
