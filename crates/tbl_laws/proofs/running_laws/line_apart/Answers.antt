use Rattle.tbl_laws.proofs.RunsApart.{line-runs-apart}
use Rattle.tbl_laws.proofs.running_laws.line_apart.Goals as goal

pub returns : goal.returns
returns c = line-runs-apart
