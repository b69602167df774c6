use Rattle.std.proofs.Common.{codes, refl}
use Rattle.std.specs.Fmt.{digits}
use Rattle.cli_words.proofs.CommandLine.{given_default-rule}
use Rattle.cli_words.proofs.command.line_length_argument.Goals as goal

pub returns : goal.returns
unfolding digits
returns c = given_default-rule c.number_argument.result c.default_value.result (codes "line-length") _ 65 refl c.default_value.ensures c.number_argument.ensures
