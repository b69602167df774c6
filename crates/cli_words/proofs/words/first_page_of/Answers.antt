use Rattle.std.proofs.Common.{◌∙◌, ap, codes, option_map}
use Rattle.std.specs.Str.Parse.{ExplainsUnsignedError, HasUnsignedDigitsIfOk, ParsesUnsigned}
use Rattle.clap.specs.Words.{found_of}
use Rattle.cli_words.specs.CommandLine.{first_page_of}
use Rattle.cli_words.proofs.CommandLine.{one-number_of}
use Rattle.cli_words.proofs.words.first_page_of.Goals as goal

pub returns : goal.returns
returns c =
    c.page_numbered.ensures
    ∙ ap (option_map first_page_of) (one-number_of (λ bs r. ParsesUnsigned 32 10 bs r × ExplainsUnsignedError 10 bs r × HasUnsignedDigitsIfOk bs r)
    (found_of c.args.options.now) (codes "first-page") c.get_one.result (λ u x g. g.0) c.get_one.ensures.none c.get_one.ensures.value)
