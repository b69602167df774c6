use Rattle.std.proofs.Common.{◌≡◌, ◌∙◌, ap, ap₂}
use Rattle.std.proofs.lemmas.Result.{IfOk-weaker}
use Rattle.clap.specs.Words.{Rule, app_of, new_app, with_rule}
use Rattle.cli_words.proofs.CommandLine.{simple-global}
use Rattle.cli_words.proofs.command.command.Goals as goal

pub returns : goal.returns
returns c =
    let empty : app_of c.after_help.result ≡ new_app c.args.name.now = rw (c.after_help.ensures, c.about.ensures) c.new.ensures.app in
    IfOk-weaker c.arg.result _ _
    (λ r adds. adds.shape (simple-global c.file_argument.result (ap (λ (r : Rule). r.is_simple) c.file_argument.ensures)) ∙ ap₂ with_rule empty c.file_argument.ensures)
    c.arg.ensures
