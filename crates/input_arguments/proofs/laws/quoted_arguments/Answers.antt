use Rattle.input_arguments.proofs.QuotedArguments.{quoted_arguments_read_back}
use Rattle.input_arguments.proofs.laws.quoted_arguments.Goals as goal

pub returns : goal.returns
returns c = quoted_arguments_read_back
