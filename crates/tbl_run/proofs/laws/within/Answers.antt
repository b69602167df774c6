use Rattle.tbl_run.proofs.MessageLimit.{messages_within}
use Rattle.tbl_run.proofs.laws.within.Goals as goal

pub returns : goal.returns
returns c = messages_within
