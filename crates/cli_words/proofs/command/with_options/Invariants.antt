use Rattle.std.proofs.Common.{◌≡◌, map, take, fold}
use Rattle.clap.specs.Words.{app_of, with_rule}
use Rattle.cli_words.specs.CommandLine.{limit_option}
use Rattle.cli_words.proofs.command.with_options.Given as goal

-- the command has the options so far
abbrev pub invariant-loop-option : goal.invariant-loop-option
invariant-loop-option l =
    app_of l.command ≡ fold with_rule (app_of l.fn.command) (map (λ option. limit_option option.of option.limit) (take l.option-index l.options))
