use Rattle.std.proofs.Common.{◌∙◌, ap, ap₂, map, fold}
use Rattle.std.proofs.lemmas.Result.{IfOk-weaker}
use Rattle.clap.specs.Words.{App, Rule, with_rule}
use Rattle.cli_words.specs.CommandLine.{both_app, limit_option, option_limits, table_limits, with_start}
use Rattle.cli_words.specs.declared.options.LimitOf.TheVariants.{Formatter, Tables}
use Rattle.cli_words.proofs.CommandLine.{simple-global}
use Rattle.cli_words.proofs.command.both_command.Goals as goal

pub returns : goal.returns
unfolding both_app
returns c =
    let named = c.in_ok-command-2.ensures ∙ ap with_start c.in_ok-command.ensures in
    let formatter = c.in_ok-command-3.ensures ∙ ap (λ (a : App). fold with_rule a (map (limit_option Formatter) option_limits)) named in
    let limits = c.in_ok-with_options.ensures ∙ ap (λ (a : App). fold with_rule a (map (limit_option Tables) table_limits)) formatter in
    IfOk-weaker c.arg.result _ _
    (λ r adds. adds.shape (simple-global c.line_length_argument.result (ap (λ (r : Rule). r.is_simple) c.line_length_argument.ensures))
    ∙ ap₂ with_rule limits c.line_length_argument.ensures)
    c.arg.ensures
