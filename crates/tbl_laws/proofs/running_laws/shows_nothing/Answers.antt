use Rattle.tbl_laws.proofs.FreeToStop.{shows-nothing}
use Rattle.tbl_laws.proofs.running_laws.shows_nothing.Goals as goal

pub returns : goal.returns
returns c = shows-nothing
