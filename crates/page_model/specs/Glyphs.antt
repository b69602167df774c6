-- Glyphs and the text that they leave in a line (manual, sections 2.1 and 11.2).
--
-- A line's text is a list of bytes. Three of them stand for blanks, so that a gap, which adjusting
-- may widen, is told from the blanks of a glyph, which it may not.
use Rattle.std.specs.Prelude.{ℕ, List, [], ◌∷◌, nat_le, replicate, sum_by, count_by, if◌then◌else◌, ◌==◌}
pub use Rattle.roff_num.specs.Widths.{byte_width}
use Rattle.page_model.specs.declared.glyph.Glyph.{Glyph}
use Rattle.page_model.specs.declared.glyph.Glyph.TheVariants.{Printed, Blanks}

-- the byte for the first blank of a gap
abbrev pub gap_blank : ℕ
gap_blank = 0x20

-- the byte for each further blank of a gap
abbrev pub further_blank : ℕ
further_blank = 0x01

-- the byte for a blank of a glyph
abbrev pub glyph_blank : ℕ
glyph_blank = 0x00

-- what stands for a printed byte: itself, or the blank of a glyph if it isn't above the blank
abbrev pub text_byte : ℕ → ℕ
text_byte b = if nat_le b 32 then glyph_blank else b

-- a glyph's text
abbrev pub glyph_text : Glyph → List ℕ
glyph_text (Printed b) = text_byte b ∷ []
glyph_text (Blanks n) = replicate n glyph_blank

-- the columns of a text
abbrev pub text_width : List ℕ → ℕ
text_width text = sum_by byte_width text

-- the columns of a glyph
abbrev pub glyph_width : Glyph → ℕ
glyph_width (Printed b) = byte_width b
glyph_width (Blanks n) = n

-- the gaps of a text, each counted by its first blank
abbrev pub gaps_in : List ℕ → ℕ
gaps_in text = count_by (λ b. b == gap_blank) text
