use Rattle.tbl_layout.proofs.SpanLaws.{all-fitted}
use Rattle.tbl_layout.proofs.laws.fitted.Goals as goal

pub returns : goal.returns
returns c = all-fitted
