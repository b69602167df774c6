use Rattle.tbl_text.proofs.Filling.{fills_block}
use Rattle.tbl_text.proofs.block_laws.longest_lines.Goals as goal

pub returns : goal.returns
returns c = fills_block
