use Rattle.std.specs.Str.Parse.{ExplainsUnsignedError, HasUnsignedDigitsIfOk, ParsesUnsigned}
use Rattle.clap.specs.Words.{found_of, rows_of}
use Rattle.roff_num.specs.Clauses.{default_limits, limits_with}
use Rattle.cli_words.proofs.CommandLine.{asked-next, one-number_of}
use Rattle.cli_words.proofs.words.read_limits.Goals as goal

pub loop-option-preserved : goal.loop-option-preserved
loop-option-preserved c =
    let number = one-number_of (λ bs r. ParsesUnsigned 32 10 bs r × ExplainsUnsignedError 10 bs r × HasUnsignedDigitsIfOk bs r)
    (found_of c.args.matches.now) c.name.result.now c.get_one-number.result (λ u x g. g.0) c.get_one-number.ensures.none c.get_one-number.ensures.value in
    asked-next limits_with (λ option. option.limit) (rows_of (found_of c.args.matches.now)) c.args.options.now c.loop-option.option-index _ c.name.result.now c.get_one-number.result
    default_limits c.loop-option.limits c.set_limit.new.limits c.loop-option-test.true c.set_limit.ensures c.name.ensures number c.loop-option.invariant
