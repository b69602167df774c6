use Rattle.tbl_tall.proofs.BandsBelow.{comes-next}
use Rattle.tbl_tall.proofs.band_laws.comes_next.Goals as goal

pub returns : goal.returns
returns c = comes-next
