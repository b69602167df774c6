use Rattle.tbl_layout.proofs.LayoutLaws.{as_wide}
use Rattle.tbl_layout.proofs.laws.expanded.Goals as goal

pub returns : goal.returns
returns c = as_wide
