use Rattle.std.proofs.Common.{◌∙◌, ap, ap₂, map, fold}
use Rattle.std.proofs.lemmas.Result.{IfOk-weaker}
use Rattle.clap.specs.Words.{App, Rule, with_rule}
use Rattle.cli_words.specs.CommandLine.{limit_option, tbl_app, tbl_limits}
use Rattle.cli_words.specs.declared.options.LimitOf.TheVariants.{Tables}
use Rattle.cli_words.proofs.CommandLine.{simple-global}
use Rattle.cli_words.proofs.command.tbl_command.Goals as goal

pub returns : goal.returns
unfolding tbl_app
returns c =
    let limits = c.in_ok-with_options.ensures ∙ ap (λ (a : App). fold with_rule a (map (limit_option Tables) tbl_limits)) c.in_ok-command.ensures in
    IfOk-weaker c.arg.result _ _
    (λ r adds. adds.shape (simple-global c.line_length_argument.result (ap (λ (r : Rule). r.is_simple) c.line_length_argument.ensures))
    ∙ ap₂ with_rule limits c.line_length_argument.ensures)
    c.arg.ensures
