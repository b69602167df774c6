use Rattle.std.proofs.Common.{sym}
use Rattle.input_arguments.proofs.Ends.{length-parts_ending}
use Rattle.input_arguments.proofs.arguments.ArgumentList.len.Goals as goal

pub returns : goal.returns
returns c = sym (length-parts_ending c.args.self.now.bytes.now 0 c.args.self.now.ends.now)
