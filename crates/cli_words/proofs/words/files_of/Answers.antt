use Rattle.std.proofs.Common.{◌∙◌, codes, refl}
use Rattle.clap.specs.Words.{found_of}
use Rattle.clap.proofs.WalkLemmas.{raw_values-rows}
use Rattle.cli_words.proofs.CommandLine.{lent-texts}
use Rattle.cli_words.proofs.words.files_of.Goals as goal

pub returns : goal.returns
returns c =
    rw (c.in_ok-extend_from_slice.ensures.items, c.new-files.ensures.items, c.unwrap_or.ensures)
    (lent-texts c.get_strs.result _ _ refl (c.get_strs.ensures ∙ raw_values-rows (found_of c.args.options.now) (codes "FILE")))
