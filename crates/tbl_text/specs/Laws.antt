-- Words for the laws of items and of what they measure.
use Rattle.std.specs.Prelude.{◌≡◌, ◌==◌, ℕ, true, false, List, [], ◌∷◌, length, map, sum_by, None, if◌then◌else◌}
use Rattle.std.specs.List.{AllByRecursion}
use Rattle.roff_num.specs.Widths.{byte_width}
use Rattle.input_source.specs.Bytes.{blank, is_text_byte}
use Rattle.tbl_text.specs.Items.{Item, byte_what, items}
use Rattle.tbl_text.specs.declared.items.What.{What}
use Rattle.tbl_text.specs.declared.measure.Measured.{Measured}

-- the bytes of each item of a text, and what each is
abbrev pub parts : List ℕ → List (List ℕ)
parts text = map (λ i. i.bytes) (items text)

abbrev pub whats : List ℕ → List What
whats text = map (λ i. i.what) (items text)

-- a byte as an item
abbrev pub byte_item : ℕ → Item
byte_item b = record { bytes = b ∷ []; what = byte_what b }

-- bytes of plain text: none is a control byte, DEL or a backslash
abbrev pub ArePlain : List ℕ → Type 0
ArePlain text = AllByRecursion (λ b. is_text_byte b ≡ true) text

-- a byte in front of what is left of a text without its last blanks
abbrev pub before_blanks : ℕ → List ℕ → List ℕ
before_blanks b [] = if b == blank then [] else b ∷ []
before_blanks b (c ∷ text) = b ∷ c ∷ text

-- a text without its last blanks
abbrev pub without_last_blanks : List ℕ → List ℕ
without_last_blanks [] = []
without_last_blanks (b ∷ text) = before_blanks b (without_last_blanks text)

-- what plain text measures, by its bytes
abbrev pub plain_measured : List ℕ → Measured
plain_measured text = record { width = sum_by byte_width text; glyphs = length (without_last_blanks text); split = None; has_notes = false }
