use Rattle.tbl_laws.proofs.StopsBelow.{stops-below}
use Rattle.tbl_laws.proofs.running_laws.stops_below.Goals as goal

pub returns : goal.returns
returns c = stops-below
