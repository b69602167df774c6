use Rattle.std.proofs.Common.{◌≡◌, ◌+◌, ◌≤◌, ◌++◌, map, take, drop, vec_len, vec_capacity}
use Rattle.tbl_format.specs.Format.{Format, format_read, left_out_behind, letters_left_out}
use Rattle.tbl_format.specs.KeyCounts.{Counts, IsCount}
use Rattle.tbl_options.specs.Notes.{left_out_note}
use Rattle.tbl_format.proofs.left_out.push_left_out.Given as goal

abbrev pub invariant-loop-at : goal.invariant-loop-at
invariant-loop-at l = record {
  items : (f : Format) → Counts f l.fn.count
      → l.notes.items ++ map (left_out_note l.line) (left_out_behind (take l.at l.bytes) (format_read f (take l.at l.bytes)) (drop l.at l.bytes))
      ≡ l.fn.notes.items ++ map (left_out_note l.line) (letters_left_out f l.bytes);
  counts : (f : Format) → Counts f l.fn.count → Counts (format_read f (take l.at l.bytes)) l.before;
  is : IsCount l.at l.before;
  few : l.before.columns ≤ l.fn.count.columns + l.at;
  room : vec_len l.notes ≤ vec_len l.fn.notes + l.at;
  capacity : vec_capacity l.notes ≡ vec_capacity l.fn.notes;
}
