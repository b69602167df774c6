use Rattle.tbl_laws.proofs.FreeToStop.{free-to-stop}
use Rattle.tbl_laws.proofs.running_laws.free_to_stop.Goals as goal

pub returns : goal.returns
returns c = free-to-stop
