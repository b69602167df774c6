use Rattle.std.proofs.Common.{◌≡◌, ◌≤◌, length, map, take}
use Rattle.tbl_text.specs.Laws.{byte_item}
use Rattle.tbl_text.specs.Measuring.{up_to_last_glyph}
use Rattle.tbl_text.proofs.plain.plain_glyphs.Given as goal

abbrev pub invariant-loop-len : goal.invariant-loop-len
invariant-loop-len l = record {
  within : l.len ≤ length l.bytes;
  same : up_to_last_glyph (map byte_item (take l.len l.bytes)) ≡ up_to_last_glyph (map byte_item l.bytes);
}

abbrev pub decreases-loop-len : goal.decreases-loop-len
decreases-loop-len l = l.len
