use Rattle.tbl_lines.proofs.KeptAlone.{plain-kept}
use Rattle.tbl_lines.proofs.plain_tables.plain_kept.Goals as goal

pub returns : goal.returns
returns c = plain-kept
