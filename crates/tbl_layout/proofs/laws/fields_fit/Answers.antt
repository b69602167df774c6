use Rattle.tbl_layout.proofs.FieldsFit.{fields-fit}
use Rattle.tbl_layout.proofs.laws.fields_fit.Goals as goal

pub returns : goal.returns
returns c = fields-fit
