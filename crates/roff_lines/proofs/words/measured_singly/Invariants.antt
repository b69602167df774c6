use Rattle.std.proofs.Common.{◌≡◌, ◌≤◌, ◌-◌, ◌++◌, length, take, drop}
use Rattle.page_model.specs.Glyphs.{text_width}
use Rattle.roff_lines.specs.GlyphsInFront.{glyphs_in_front}
use Rattle.roff_lines.proofs.words.measured_singly.Given as goal

abbrev pub invariant-loop-count : goal.invariant-loop-count
invariant-loop-count l = record {
  text : l.count ≤ length l.text;
  most : l.count ≤ l.most;
  few : l.width ≤ l.count;
  width : l.width ≡ text_width (take l.count l.text);
  glyphs : take l.count l.text ++ glyphs_in_front (drop l.count l.text) ≡ glyphs_in_front l.text;
}

abbrev pub decreases-loop-count : goal.decreases-loop-count
decreases-loop-count l = l.most - l.count
