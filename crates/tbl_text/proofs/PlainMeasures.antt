-- What plain text measures, by its bytes.
use Rattle.std.proofs.Common.{◌≡◌, ℕ, Bool, true, false, List, [], ◌∷◌, length, map, refl, ap, ◌∙◌, ◌==◌, None, not, sum_by, if◌then◌else◌}
use Rattle.roff_num.specs.Widths.{byte_width}
use Rattle.input_source.specs.Bytes.{blank, is_text_byte}
use Rattle.tbl_text.specs.Items.{items}
use Rattle.tbl_text.specs.Laws.{ArePlain, before_blanks, byte_item, plain_measured, without_last_blanks}
use Rattle.tbl_text.specs.Measuring.{before_glyphs, has_notes, len_of, text_measured, up_to_last_glyph}
use Rattle.tbl_text.proofs.ItemLaws.{items-all_plain}
use Rattle.tbl_text.proofs.PlainTexts.{plain-glyph, plain-len, plain-notes, plain-width}

-- a byte in front of others
not_blank : (b : ℕ) (is : Bool) → (if not is then byte_item b ∷ [] else []) ≡ map byte_item (if is then [] else b ∷ [])
not_blank b true = refl
not_blank b false = refl

before-blanks : (b : ℕ) (left : List ℕ) → is_text_byte b ≡ true → before_glyphs (byte_item b) (map byte_item left) ≡ map byte_item (before_blanks b left)
before-blanks b [] plain = ap (λ (t : Bool). if t then byte_item b ∷ [] else []) (plain-glyph b plain) ∙ not_blank b (b == blank)
before-blanks b (c ∷ left) plain = refl

-- what reaches up to the last glyph
plain-glyphs : (text : List ℕ) → ArePlain text → up_to_last_glyph (map byte_item text) ≡ map byte_item (without_last_blanks text)
plain-glyphs [] plain = refl
plain-glyphs (b ∷ text) plain = ap (before_glyphs (byte_item b)) (plain-glyphs text plain.1) ∙ before-blanks b (without_last_blanks text) plain.0

pub plain-measured : (text : List ℕ) → ArePlain text → text_measured (items text) ≡ plain_measured text
plain-measured text plain =
    ap text_measured (items-all_plain text plain)
    ∙ ap (λ (n : ℕ). record { width = n; glyphs = len_of (up_to_last_glyph (map byte_item text)); split = None; has_notes = has_notes (map byte_item text) }) (plain-width text plain)
    ∙ ap (λ (n : ℕ). record { width = sum_by byte_width text; glyphs = n; split = None; has_notes = has_notes (map byte_item text) })
    (ap len_of (plain-glyphs text plain) ∙ plain-len (without_last_blanks text))
    ∙ ap (λ (t : Bool). record { width = sum_by byte_width text; glyphs = length (without_last_blanks text); split = None; has_notes = t }) (plain-notes text plain)
