-- Words as they stand in lines (manual, section 4.1).
--
-- A line's words are the newest first.
use Rattle.std.specs.Prelude.{ℕ, ◌+◌, ◌-◌, Bool, true, not, ◌||◌, List, [], ◌∷◌, ◌++◌, nat_le, replicate, if◌then◌else◌, ◌==◌}
use Rattle.std.specs.List.{flat_map}
use Rattle.page_model.specs.declared.glyph.Glyph.{Glyph}
use Rattle.page_model.specs.declared.settings.Settings.{Settings}
use Rattle.page_model.specs.Glyphs.{gap_blank, further_blank, glyph_text, text_width}
use Rattle.page_model.specs.Settings.{fills}

-- a word: its glyphs in order, the blanks of the gap before it, what was in force as it ended, and the indent of the line
-- that it would begin then
pub record Word : Type 0 where
  pub glyphs : List Glyph
  pub gap : ℕ
  pub under : Settings
  pub indent : ℕ

-- a word's text
abbrev pub word_text : Word → List ℕ
word_text w = flat_map glyph_text w.glyphs

-- a gap's text: its first blank, and each further one
abbrev pub gap_text : ℕ → List ℕ
gap_text n = if n == 0 then [] else gap_blank ∷ replicate (n - 1) further_blank

-- a line's text: the words, and the gaps between them
abbrev pub line_text : List Word → List ℕ
line_text [] = []
line_text (w ∷ []) = word_text w
line_text (w ∷ v ∷ ws) = line_text (v ∷ ws) ++ (gap_text w.gap ++ word_text w)

-- a line's indent, fixed as its first word ended
abbrev pub line_indent : List Word → ℕ
line_indent [] = 0
line_indent (w ∷ []) = w.indent
line_indent (w ∷ v ∷ ws) = line_indent (v ∷ ws)

-- whether a line of this indent may have text of this width: with its indent within the line length,
-- and always where words aren't measured
abbrev pub may_be_wide : Settings → ℕ → ℕ → Bool
may_be_wide s indent width = not (fills s) || nat_le (indent + width) s.line_length

-- whether a word fits behind a line, by what was in force as the word ended
abbrev pub fits : List Word → Word → Bool
fits line w =
    may_be_wide w.under (line_indent line) (text_width (line_text line) + w.gap + text_width (word_text w))

-- whether a word begins a line of its own behind a line
abbrev pub begins_line : List Word → Word → Bool
begins_line [] w = true
begins_line (v ∷ line) w = not (fits (v ∷ line) w)

-- the line that a word stands in: that of the words before it if it fits there, else a line of its own
abbrev pub placed : List Word → Word → List Word
placed [] w = w ∷ []
placed (v ∷ line) w = if fits (v ∷ line) w then w ∷ v ∷ line else w ∷ []

-- the last line of a paragraph's words
abbrev pub last_line : List Word → List Word
last_line [] = []
last_line (w ∷ ws) = placed (last_line ws) w
