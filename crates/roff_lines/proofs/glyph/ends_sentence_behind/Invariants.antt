use Rattle.std.proofs.Common.{◌≡◌, length}
use Rattle.page_model.specs.Words.{ends_sentence_behind}
use Rattle.roff_lines.proofs.glyph.ends_sentence_behind.Given as goal

abbrev pub invariant-loop-last : goal.invariant-loop-last
invariant-loop-last l = ends_sentence_behind l.front l.before ≡ ends_sentence_behind l.bytes l.before

abbrev pub decreases-loop-last : goal.decreases-loop-last
decreases-loop-last l = length l.front
