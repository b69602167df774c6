use Rattle.std.proofs.Common.{◌≡◌, ◌+◌, ◌-◌, ◌≤◌, ◌++◌, length, map, vec_len, vec_capacity, slice_range}
use Rattle.tbl_options.specs.Notes.{NotesWithin, ignored_message, told_at, told_of_all}
use Rattle.tbl_options.specs.Options.{ignored_of, ignored_options, options_of, words_behind}
use Rattle.tbl_options.specs.OptionWords.{IsHeld}
use Rattle.tbl_options.proofs.Words.{held_words}
use Rattle.tbl_options.proofs.options.push_ignored.Given as goal

abbrev pub invariant-loop-at : goal.invariant-loop-at
invariant-loop-at l = record {
  told : told_of_all l.block l.notes.items ++ map (λ word. told_at l.line (ignored_message word)) (ignored_of (options_of (held_words l.block l.read ++ words_behind l.inside (slice_range l.block l.start l.at) (slice_range l.block l.at l.to)))) ≡ told_of_all l.block l.fn.notes.items ++ map (λ word. told_at l.line (ignored_message word)) (ignored_options (slice_range l.block l.from l.to));
  begun : l.start ≤ l.at;
  held : IsHeld (length l.block) l.read;
  within : NotesWithin (length l.block) l.notes.items;
  room : vec_len l.notes + ((l.read.to - l.read.from) + (l.to - l.start)) ≤ vec_len l.fn.notes + (l.to - l.from);
  capacity : vec_capacity l.notes ≡ vec_capacity l.fn.notes;
}
