use Rattle.std.proofs.Common.{◌≡◌, ◌+◌, length}
use Rattle.page_model.specs.Glyphs.{text_width}
use Rattle.page_bytes.proofs.title_part.width_of_text.Given as goal

abbrev pub invariant-loop-byte : goal.invariant-loop-byte
invariant-loop-byte l = l.width + text_width l.rest ≡ text_width l.text

abbrev pub decreases-loop-byte : goal.decreases-loop-byte
decreases-loop-byte l = length l.rest
