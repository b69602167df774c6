use Rattle.std.proofs.Common.{◌≡◌, map, take, fold}
use Rattle.clap.specs.Words.{found_of, rows_of}
use Rattle.roff_num.specs.Clauses.{default_limits, limits_with}
use Rattle.cli_words.specs.CommandLine.{set_by}
use Rattle.cli_words.proofs.words.read_limits.Given as goal

-- the limits are those that the options so far ask for
abbrev pub invariant-loop-option : goal.invariant-loop-option
invariant-loop-option l =
    l.limits ≡ fold (set_by limits_with (rows_of (found_of l.matches))) default_limits (map (λ option. option.limit) (take l.option-index l.options))
