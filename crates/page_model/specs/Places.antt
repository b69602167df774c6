-- The place on the line of the input, and how far a tab moves (manual, section 9.1).
use Rattle.std.specs.Prelude.{ℕ, ◌+◌, min, Bool, true, false, [], ◌∷◌, if◌then◌else◌}
use Rattle.page_model.specs.Glyphs.{glyph_width}
use Rattle.page_model.specs.TabStops.{way_to_stop}
use Rattle.page_model.specs.Events.{Print, Tab, Gap, LineEnd, History, stops_after}

-- the greatest place that is told from those behind it
abbrev pub most_place : ℕ
most_place = 2147483647

-- a place with so many columns more
abbrev pub moved : ℕ → ℕ → ℕ
moved columns place = min (place + columns) most_place

-- whether a glyph stands on the line of the input
abbrev pub has_line_glyph : History → Bool
has_line_glyph [] = false
has_line_glyph (Print g ∷ h) = true
has_line_glyph (Tab ∷ h) = true
has_line_glyph (LineEnd ∷ h) = false
has_line_glyph (_ ∷ h) = has_line_glyph h

-- The place on the line of the input, in columns: the widths of the glyphs, gaps and tabs since its last line ended. A
-- break leaves it as it is, and so does a gap with no glyph on the line.
abbrev pub input_place : History → ℕ
input_place [] = 0
input_place (Print g ∷ h) = moved (glyph_width g) (input_place h)
input_place (Tab ∷ h) = let place = input_place h in moved (way_to_stop (stops_after h) place) place
input_place (Gap n ∷ h) = if has_line_glyph h then moved n (input_place h) else input_place h
input_place (LineEnd ∷ h) = 0
input_place (_ ∷ h) = input_place h

-- the columns of a tab behind a history
abbrev pub tab_width : History → ℕ
tab_width h = way_to_stop (stops_after h) (input_place h)
