use Rattle.std.proofs.Common.{◌≡◌, ◌-◌, ◌≤◌, length}
use Rattle.std.specs.List.{slice_range}
use Rattle.tbl_data.proofs.NotesTold.{ItemsTold}
use Rattle.tbl_kept.specs.Joined.{ends_joined}
use Rattle.tbl_kept.specs.TableText.{block_of}
use Rattle.tbl_data.proofs.data_line.tell_items.Given as goal

abbrev pub invariant-loop-note : goal.invariant-loop-note
invariant-loop-note l = record {
  text : l.text ≡ l.fn.text;
  told : ItemsTold (ends_joined l.fn.text.pending) l.line.number (l.from - l.line.from) (slice_range (block_of l.fn.text) l.from l.to) l.at l.fn.notes l.notes;
  within : l.at ≤ length (slice_range (block_of l.fn.text) l.from l.to);
  room : l.escapes.room ≡ l.fn.escapes.room;
}

abbrev pub decreases-loop-note : goal.decreases-loop-note
decreases-loop-note l = length (slice_range (block_of l.fn.text) l.from l.to) - l.at
