use Rattle.tbl_text.proofs.PlainMeasures.{plain-measured}
use Rattle.tbl_text.proofs.laws.plain_measures.Goals as goal

pub returns : goal.returns
returns c = plain-measured
