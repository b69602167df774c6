use Rattle.tbl_laws.proofs.EndsInTime.{none-moved}
use Rattle.tbl_laws.proofs.running_laws.none_moved.Goals as goal

pub returns : goal.returns
returns c = none-moved
