-- The last finished line: its width (manual, section 8: the register `.n`), in columns, and its text.
use Rattle.std.specs.Prelude.{◌≡◌, ℕ, ◌+◌, List, [], ◌∷◌, length}
use Rattle.page_model.specs.Glyphs.{text_width}
use Rattle.page_model.specs.Events.{History}
use Rattle.page_model.specs.Lines.{Finished}
use Rattle.page_model.specs.Columns.{column_of}
use Rattle.page_model.specs.Paragraphs.{finished_lines}

-- the columns of a line's text, those that are spread over its gaps among them; not its lead
abbrev pub line_width : Finished → ℕ
line_width l = text_width l.text + l.spare

-- the width of the newest of some lines, 0 where there is none
abbrev pub newest_width : List Finished → ℕ
newest_width [] = 0
newest_width (line ∷ lines) = line_width line

-- the width of the last line that a history finished
abbrev pub last_width : History → ℕ
last_width h = newest_width (finished_lines h)

-- the text of the newest of some lines, none where there is none
abbrev pub newest_text : List Finished → List ℕ
newest_text [] = []
newest_text (line ∷ lines) = line.text

-- the text of the last line that a history finished
abbrev pub last_text : History → List ℕ
last_text h = newest_text (finished_lines h)

-- a line whose text ends so far behind its lead
abbrev pub EndsAtWidth : Finished → Type 0
EndsAtWidth line = column_of line (length line.text) ≡ line.lead + line_width line
