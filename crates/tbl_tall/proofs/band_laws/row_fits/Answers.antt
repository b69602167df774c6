use Rattle.tbl_tall.proofs.BarsFit.{row-fits}
use Rattle.tbl_tall.proofs.band_laws.row_fits.Goals as goal

pub returns : goal.returns
returns c = row-fits
