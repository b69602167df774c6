use Rattle.std.proofs.Common.{◌≡◌, ◌≤◌, take, sum_by}
use Rattle.roff_num.specs.Widths.{byte_width}
use Rattle.tbl_text.proofs.plain.width_by_bytes.Given as goal

abbrev pub invariant-loop-byte : goal.invariant-loop-byte
invariant-loop-byte l = (l.width ≡ sum_by byte_width (take l.byte-index l.bytes)) × (l.width ≤ l.byte-index)
