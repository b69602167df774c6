use Rattle.std.proofs.Common.{◌∙◌, ap, codes}
use Rattle.clap.specs.Words.{found_of}
use Rattle.clap.proofs.WalkLemmas.{first_value-rows}
use Rattle.cli_words.specs.PagesAsked.{pages_listed}
use Rattle.cli_words.proofs.words.pages_of.Goals as goal

pub returns : goal.returns
returns c = c.read_pages.ensures ∙ ap pages_listed (c.get_str.ensures ∙ first_value-rows (found_of c.args.options.now) (codes "pages"))
