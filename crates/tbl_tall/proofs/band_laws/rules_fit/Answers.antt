use Rattle.tbl_tall.proofs.BarsFit.{rules-fit}
use Rattle.tbl_tall.proofs.band_laws.rules_fit.Goals as goal

pub returns : goal.returns
returns c = rules-fit
