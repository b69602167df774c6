-- What a proof unfolds to compute what a command line that is written out asks for.
use Rattle.std.specs.Prelude.{⊤}
use Rattle.clap.proofs.OnLiterals.{clap_on_literals}
use Rattle.roff_num.proofs.OnLiterals.{numbers_on_literals}
use Rattle.cli_words.specs.CommandLine.{both_app, nroff_app, roff_app, tbl_app}
use Rattle.cli_words.specs.PagesAsked.{parts_at, ranges_behind, split_at}
use Rattle.cli_words.specs.Preparing.{words_prepared}
use Rattle.cli_words.specs.RegistersAsked.{registers_behind}

unfoldable pub words_on_literals : ⊤
unfolding clap_on_literals numbers_on_literals roff_app nroff_app tbl_app both_app parts_at ranges_behind split_at words_prepared registers_behind
words_on_literals = tt
