use Rattle.std.proofs.Common.{◌≡◌, ◌≤◌, ◌-◌, ◌++◌, length, take, drop}
use Rattle.roff_lines.specs.GlyphsInFront.{glyphs_in_front}
use Rattle.roff_lines.proofs.words.count_of_glyphs.Given as goal

abbrev pub invariant-loop-count : goal.invariant-loop-count
invariant-loop-count l = record {
  text : l.count ≤ length l.text;
  glyphs : take l.count l.text ++ glyphs_in_front (drop l.count l.text) ≡ glyphs_in_front l.text;
}

abbrev pub decreases-loop-count : goal.decreases-loop-count
decreases-loop-count l = length l.text - l.count

abbrev pub invariant-loop-count-2 : goal.invariant-loop-count-2
invariant-loop-count-2 l = record {
  text : l.count ≤ length l.text;
  glyphs : take l.count l.text ++ glyphs_in_front (drop l.count l.text) ≡ glyphs_in_front l.text;
}

abbrev pub decreases-loop-count-2 : goal.decreases-loop-count-2
decreases-loop-count-2 l = length l.text - l.count
