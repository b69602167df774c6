use Rattle.std.proofs.Common.{◌≡◌, ◌≤◌, take}
use Rattle.page_model.specs.Glyphs.{gaps_in, text_width}
use Rattle.roff_pages.proofs.line_width.width_and_gaps.Given as goal

abbrev pub invariant-loop-byte : goal.invariant-loop-byte
invariant-loop-byte l = record {
  width : l.width ≡ text_width (take l.byte-index l.text);
  gaps : l.gaps ≡ gaps_in (take l.byte-index l.text);
  narrow : l.width ≤ l.byte-index;
  few : l.gaps ≤ l.byte-index;
}
