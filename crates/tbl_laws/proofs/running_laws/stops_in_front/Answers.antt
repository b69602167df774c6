use Rattle.tbl_laws.proofs.StopsInFront.{stops-in-front}
use Rattle.tbl_laws.proofs.running_laws.stops_in_front.Goals as goal

pub returns : goal.returns
returns c = stops-in-front
