use Rattle.std.proofs.Common.{◌≡◌, ◌≤◌, take}
use Rattle.page_model.specs.Glyphs.{text_width}
use Rattle.roff_lines.proofs.words.width_of_bytes.Given as goal

abbrev pub invariant-loop-byte : goal.invariant-loop-byte
invariant-loop-byte l = record {
  width : l.width ≡ text_width (take l.byte-index l.bytes);
  within : l.width ≤ l.byte-index;
}
