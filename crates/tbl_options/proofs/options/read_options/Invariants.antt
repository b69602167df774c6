use Rattle.std.proofs.Common.{◌≡◌, ◌≤◌, ◌++◌, length, drop, fold, slice_range}
use Rattle.tbl_options.specs.Options.{options_of, options_read, with_said, words_behind}
use Rattle.tbl_options.specs.OptionWords.{IsHeld}
use Rattle.tbl_options.proofs.Words.{held_words}
use Rattle.tbl_options.proofs.options.read_options.Given as goal

abbrev pub invariant-loop-at : goal.invariant-loop-at
invariant-loop-at l = record {
  read : fold with_said l.read.options (options_of (held_words l.text l.read ++ words_behind l.inside (slice_range l.text l.from l.at) (drop l.at l.text))) ≡ options_read l.text;
  begun : l.from ≤ l.at;
  held : IsHeld (length l.text) l.read;
}
