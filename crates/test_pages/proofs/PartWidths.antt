-- How wide the parts of a title are at most.
use Rattle.std.proofs.Common.{◌≡◌, ℕ, ◌+◌, ◌*◌, ◌≤◌, Bool, true, false, List, [], ◌∷◌, ◌++◌, length, arith, if◌then◌else◌, ◌==◌}
use Rattle.std.proofs.lemmas.List.Sums.{sum_by-append, sum_by-cons}
use Rattle.roff_num.specs.Widths.{byte_width}
use Rattle.page_model.specs.Glyphs.{glyph_blank, text_width}
use Rattle.roff_lines.proofs.Widths.{byte_width_le, text_width_le}
use Rattle.page_model.specs.Titles.{page_mark, part_text}

-- of a part whose number has 100 bytes at most
width_by_test : (is_mark : Bool) (number : List ℕ) (b : ℕ) (part rest : List ℕ) → length number ≤ 100 → text_width rest ≤ 101 * length part
    → text_width (if is_mark then number ++ rest else b ∷ rest) ≤ 101 * length (b ∷ part)
width_by_test true number b part rest few within = omega (arith, sum_by-append byte_width number rest, text_width_le number)
width_by_test false number b part rest few within = omega (arith, sum_by-cons byte_width b rest, byte_width_le b)

pub part_width_le : (number part : List ℕ) → length number ≤ 100 → text_width (part_text number part) ≤ 101 * length part
part_width_le number [] few = omega arith
part_width_le number (b ∷ part) few =
    let at_most = width_by_test (b == page_mark) number (if b == glyph_blank then 32 else b) part (part_text number part) few (part_width_le number part few) in
    omega (arith, at_most)
