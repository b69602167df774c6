use Rattle.tbl_layout.proofs.LayoutLaws.{in_order}
use Rattle.tbl_layout.proofs.laws.in_order.Goals as goal

pub returns : goal.returns
returns c = in_order
