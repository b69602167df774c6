use Rattle.std.proofs.Common.{ap, ◌∙◌}
use Rattle.tbl_options.specs.Options.{are_two_bytes}
use Rattle.tbl_options.proofs.option_words.is_delim.Goals as goal

pub returns : goal.returns
returns c = c.are_two_bytes.ensures ∙ ap are_two_bytes c.argument_of.ensures
