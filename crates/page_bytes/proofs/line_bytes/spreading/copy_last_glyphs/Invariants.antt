use Rattle.std.proofs.Common.{◌≡◌, ◌≤◌, ◌+◌, ◌-◌, ◌++◌, length, take, drop}
use Rattle.roff_lines.specs.GlyphsInFront.{glyphs_in_front}
use Rattle.page_bytes.proofs.line_bytes.spreading.copy_last_glyphs.Given as goal

abbrev pub invariant-loop-count : goal.invariant-loop-count
invariant-loop-count l = record {
  text : l.taken + l.count ≤ length l.text;
  same : length l.out ≡ length l.initial.out;
  glyphs : take l.count (drop l.taken l.text) ++ glyphs_in_front (drop l.count (drop l.taken l.text)) ≡ glyphs_in_front (drop l.taken l.text);
  written : take (l.end + l.count) l.out ≡ take l.end l.initial.out ++ take l.count (drop l.taken l.text);
}

abbrev pub decreases-loop-count : goal.decreases-loop-count
decreases-loop-count l = length l.text - (l.taken + l.count)
