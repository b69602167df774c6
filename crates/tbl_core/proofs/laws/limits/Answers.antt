use Rattle.tbl_core.proofs.Limiting.{limits_cut}
use Rattle.tbl_core.proofs.laws.limits.Goals as goal

pub returns : goal.returns
returns c = limits_cut
