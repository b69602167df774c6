use Rattle.tbl_laws.proofs.EndsInTime.{ends-in-time}
use Rattle.tbl_laws.proofs.running_laws.ends_in_time.Goals as goal

pub returns : goal.returns
returns c = ends-in-time
