use Rattle.std.proofs.Common.{sym}
use Rattle.roff_num.proofs.Lists.{last_end-slice_get}
use Rattle.input_arguments.proofs.arguments.last_end.Goals as goal

pub returns-in-Some : goal.returns-in-Some
returns-in-Some c = last_end-slice_get c.args.ends.now c.in-Some.end.now (sym c.in-Some.ensures.value)
