use Rattle.law_reading.proofs.interpolation_laws.quoted_arguments.Goals as goal
use Rattle.law_reading.proofs.QuotedArguments.{requests_get_quoted_arguments}

pub returns : goal.returns
returns c = requests_get_quoted_arguments
