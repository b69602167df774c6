use Rattle.std.proofs.Common.{◌≡◌, drop}
use Rattle.tbl_options.specs.Options.{is_name}
use Rattle.tbl_options.proofs.option_words.is_name.Given as goal

abbrev pub invariant-loop-at : goal.invariant-loop-at
invariant-loop-at l = is_name (drop l.at l.name) (drop l.at l.word) ≡ is_name l.name l.word
