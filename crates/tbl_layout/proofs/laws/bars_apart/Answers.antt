use Rattle.tbl_layout.proofs.LayoutLaws.{has_room}
use Rattle.tbl_layout.proofs.laws.bars_apart.Goals as goal

pub returns : goal.returns
returns c = has_room
