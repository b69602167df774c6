use Rattle.std.proofs.Common.{◌≡◌, drop}
use Rattle.tbl_options.specs.Options.{options_end, options_end_from}
use Rattle.tbl_options.proofs.options.options_end.Given as goal

abbrev pub invariant-loop-at : goal.invariant-loop-at
invariant-loop-at l = options_end_from l.inside l.at (drop l.at l.line) ≡ options_end l.line
