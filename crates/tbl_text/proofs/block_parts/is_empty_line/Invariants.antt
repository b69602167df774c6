use Rattle.std.proofs.Common.{◌≡◌, drop}
use Rattle.tbl_text.specs.BlockWords.{is_empty_line}
use Rattle.tbl_text.proofs.block_parts.is_empty_line.Given as goal

abbrev pub invariant-loop-byte : goal.invariant-loop-byte
invariant-loop-byte l = is_empty_line (drop l.byte-index l.line) ≡ is_empty_line l.line
