use Rattle.tbl_run.proofs.MessageLimit.{messages_only_stop}
use Rattle.tbl_run.proofs.laws.stopping.Goals as goal

pub returns : goal.returns
returns c = messages_only_stop
