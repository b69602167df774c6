use Rattle.std.proofs.Common.{◌∙◌, ap, codes, refl}
use Rattle.clap.specs.Words.{found_of}
use Rattle.clap.proofs.WalkLemmas.{raw_values-rows}
use Rattle.cli_words.specs.RegistersAsked.{registers_of}
use Rattle.cli_words.proofs.CommandLine.{lent-texts}
use Rattle.cli_words.proofs.words.registers_of.Goals as goal

pub returns : goal.returns
returns c =
    c.read_registers.ensures
    ∙ ap registers_of (rw c.unwrap_or.ensures
    (lent-texts c.get_strs.result _ _ refl (c.get_strs.ensures ∙ raw_values-rows (found_of c.args.options.now) (codes "register"))))
