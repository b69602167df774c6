use Rattle.std.proofs.Common.{ap, ◌∙◌, is_some}
use Rattle.tbl_options.proofs.option_words.is_linesize.Goals as goal

pub returns : goal.returns
returns c = c.is_given.ensures ∙ ap is_some c.argument_of.ensures
