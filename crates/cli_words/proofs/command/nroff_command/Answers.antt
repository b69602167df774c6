use Rattle.std.proofs.Common.{◌∙◌, ap, map, fold}
use Rattle.std.proofs.lemmas.Result.{IfOk-weaker}
use Rattle.clap.specs.Words.{App, with_rule}
use Rattle.cli_words.specs.CommandLine.{limit_option, nroff_app, option_limits, with_start}
use Rattle.cli_words.specs.declared.options.LimitOf.TheVariants.{Formatter}
use Rattle.cli_words.proofs.command.nroff_command.Goals as goal

pub returns : goal.returns
unfolding nroff_app
returns c =
    let named = c.in_ok-command-2.ensures ∙ ap with_start c.in_ok-command.ensures in
    IfOk-weaker c.with_options.result _ _
    (λ r all. all ∙ ap (λ (a : App). fold with_rule a (map (limit_option Formatter) option_limits)) named) c.with_options.ensures
