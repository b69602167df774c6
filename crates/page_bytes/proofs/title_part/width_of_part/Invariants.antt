use Rattle.std.proofs.Common.{◌≡◌, ◌+◌, length}
use Rattle.page_model.specs.Glyphs.{text_width}
use Rattle.page_model.specs.Titles.{part_text}
use Rattle.page_bytes.proofs.title_part.width_of_part.Given as goal

abbrev pub invariant-loop-byte : goal.invariant-loop-byte
invariant-loop-byte l = l.width + text_width (part_text l.number l.rest) ≡ text_width (part_text l.number l.part)

abbrev pub decreases-loop-byte : goal.decreases-loop-byte
decreases-loop-byte l = length l.rest
