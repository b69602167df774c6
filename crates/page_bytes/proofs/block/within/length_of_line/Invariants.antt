use Rattle.std.proofs.Common.{◌≡◌, ◌+◌, ◌-◌, ◌≤◌, length}
use Rattle.page_model.specs.Columns.{device_line, finished_of, printed}
use Rattle.page_bytes.proofs.block.within.length_of_line.Given as goal

abbrev pub invariant-loop-byte : goal.invariant-loop-byte
invariant-loop-byte l = record {
  room : l.fn.after + l.left ≤ l.fn.room;
  whole : l.fn.room - l.fn.after - l.left + length l.to_come ≡ length (device_line l.fn.columns (printed (finished_of l.fn.line)));
}

abbrev pub decreases-loop-byte : goal.decreases-loop-byte
decreases-loop-byte l = length l.to_come
