use Rattle.std.proofs.Common.{◌∙◌, ap, ap₂}
use Rattle.std.proofs.lemmas.Result.{IfOk-weaker}
use Rattle.clap.specs.Words.{Rule, app_of, with_rule}
use Rattle.cli_words.proofs.CommandLine.{simple-global}
use Rattle.cli_words.proofs.command.with_start.Goals as goal

pub returns : goal.returns
returns c =
    let first = c.in_ok-command.ensures.shape (simple-global c.first_page_argument.result (ap (λ (r : Rule). r.is_simple) c.first_page_argument.ensures))
    ∙ ap (with_rule (app_of c.args.command)) c.first_page_argument.ensures in
    let second = c.in_ok-command-2.ensures.shape (simple-global c.pages_argument.result (ap (λ (r : Rule). r.is_simple) c.pages_argument.ensures))
    ∙ ap₂ with_rule first c.pages_argument.ensures in
    IfOk-weaker c.arg-3.result _ _
    (λ r adds. adds.shape (simple-global c.register_argument.result (ap (λ (r : Rule). r.is_simple) c.register_argument.ensures))
    ∙ ap₂ with_rule second c.register_argument.ensures)
    c.arg-3.ensures
