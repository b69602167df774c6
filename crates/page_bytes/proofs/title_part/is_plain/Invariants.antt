use Rattle.std.proofs.Common.{◌≡◌, ℕ, List, length}
use Rattle.page_model.specs.Glyphs.{text_width}
use Rattle.page_model.specs.Titles.{part_text}
use Rattle.page_bytes.proofs.title_part.is_plain.Given as goal

abbrev pub invariant-loop-byte : goal.invariant-loop-byte
invariant-loop-byte l = record {
  text : (number : List ℕ) → part_text number l.rest ≡ l.rest → part_text number l.part ≡ l.part;
  width : text_width l.rest ≡ length l.rest → text_width l.part ≡ length l.part;
}

abbrev pub decreases-loop-byte : goal.decreases-loop-byte
decreases-loop-byte l = length l.rest
