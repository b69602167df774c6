use Rattle.tbl_layout.proofs.SpanLaws.{holds-all}
use Rattle.tbl_layout.proofs.laws.hold_all.Goals as goal

pub returns : goal.returns
returns c = holds-all
