use Rattle.std.proofs.Common.{◌∙◌, ap, codes, unwrap_or}
use Rattle.std.specs.Str.Parse.{ExplainsUnsignedError, HasUnsignedDigitsIfOk, ParsesUnsigned}
use Rattle.clap.specs.Words.{found_of}
use Rattle.cli_words.proofs.CommandLine.{one-number_of}
use Rattle.cli_words.proofs.words.read_line_length.Goals as goal

pub returns : goal.returns
returns c =
    c.unwrap_or.ensures ∙ ap (λ n. unwrap_or n 65) (one-number_of (λ bs r. ParsesUnsigned 32 10 bs r × ExplainsUnsignedError 10 bs r × HasUnsignedDigitsIfOk bs r)
    (found_of c.args.options.now) (codes "line-length") c.get_one.result (λ u x g. g.0) c.get_one.ensures.none c.get_one.ensures.value)
