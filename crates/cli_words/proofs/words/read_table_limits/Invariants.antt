use Rattle.std.proofs.Common.{◌≡◌, map, take, fold}
use Rattle.clap.specs.Words.{found_of, rows_of}
use Rattle.tbl_format.specs.TblLimits.{default_tbl_limits, tbl_limits_with}
use Rattle.cli_words.specs.CommandLine.{set_by}
use Rattle.cli_words.proofs.words.read_table_limits.Given as goal

-- the limits are those that the options so far ask for
abbrev pub invariant-loop-option : goal.invariant-loop-option
invariant-loop-option l =
    l.limits ≡ fold (set_by tbl_limits_with (rows_of (found_of l.matches))) default_tbl_limits (map (λ option. option.limit) (take l.option-index l.options))
