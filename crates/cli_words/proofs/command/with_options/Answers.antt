use Rattle.std.proofs.Common.{◌∙◌, ap, ap₂, sym}
use Rattle.clap.specs.Words.{Rule, app_of, with_rule}
use Rattle.cli_words.specs.CommandLine.{limit_option}
use Rattle.cli_words.proofs.CommandLine.{fold-take-more, simple-global}
use Rattle.cli_words.proofs.command.with_options.Goals as goal

pub loop-option-preserved : goal.loop-option-preserved
loop-option-preserved c =
    c.in_ok-command.ensures.shape (simple-global c.limit_argument.result (ap (λ (r : Rule). r.is_simple) c.limit_argument.ensures))
    ∙ ap₂ with_rule c.loop-option.invariant c.limit_argument.ensures
    ∙ sym (fold-take-more with_rule (app_of c.args.command) (λ option. limit_option option.of option.limit) c.args.options.now c.loop-option.option-index _ c.loop-option-test.true)
