use Rattle.tbl_laws.proofs.RowRuns.{running-apart}
use Rattle.tbl_laws.proofs.running_laws.running_apart.Goals as goal

pub returns : goal.returns
returns c = running-apart
