use Rattle.tbl_lines.proofs.PlainRows.{behind-alone}
use Rattle.tbl_lines.proofs.laws.behind_alone.Goals as goal

pub returns : goal.returns
returns c = behind-alone
