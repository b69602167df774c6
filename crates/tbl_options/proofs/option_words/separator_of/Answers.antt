use Rattle.std.proofs.Common.{ap, ◌∙◌}
use Rattle.tbl_options.specs.Options.{one_byte}
use Rattle.tbl_options.proofs.option_words.separator_of.Goals as goal

pub returns : goal.returns
returns c = c.one_byte.ensures ∙ ap one_byte c.argument_of.ensures
