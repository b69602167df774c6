use Rattle.std.proofs.Common.{None, ap, ◌∙◌}
use Rattle.clap.specs.Words.{Text}
use Rattle.roff_num.specs.Clauses.{limit_name}
use Rattle.cli_words.specs.CommandLine.{default_of, number_option}
use Rattle.cli_words.proofs.CommandLine.{no_default-rule, shown_default-rule}
use Rattle.cli_words.proofs.command.limit_argument.Goals as goal

pub returns-in-Some : goal.returns-in-Some
returns-in-Some c =
    let limit = c.args.option.now.limit in
    let rule = c.number_argument-argument.ensures ∙ ap (λ (name : Text). number_option name None) c.name.ensures in
    shown_default-rule c.number_argument-argument.result (limit_name limit) c.default_text.result rule c.default_value.result c.in-Some.default
    (default_of c.args.option.now.of limit) c.default_text.ensures c.in-Some.is c.default_value.ensures

pub returns-in-None : goal.returns-in-None
returns-in-None c =
    let limit = c.args.option.now.limit in
    let rule = c.number_argument-argument.ensures ∙ ap (λ (name : Text). number_option name None) c.name.ensures in
    no_default-rule c.number_argument-argument.result (limit_name limit) c.default_text.result rule (default_of c.args.option.now.of limit) c.default_text.ensures c.in-None.is
