-- What an environment is behind a history, fields among it: what the definitions over plain histories say, of what is told
-- without fields.
use Rattle.std.specs.Prelude.{ℕ, Bool, not, ◌&&◌, List, [], ◌∷◌, max, Option, Some, None, if◌then◌else◌, ◌==◌}
use Rattle.std.specs.List.{cons_option}
use Rattle.page_model.specs.Events.{Event, Tab, FieldEnd, WordEnd, LineEnd, Break, History}
use Rattle.page_model.specs.Fields.{Field, Told, field_told, is_in_field, motion, plain, told_plainly, without_gap}
use Rattle.page_model.specs.LastLine.{newest_text, newest_width}
use Rattle.page_model.specs.Lines.{Finished, finished_in, pending_length as length_in}
use Rattle.page_model.specs.Places.{has_line_glyph as has_glyph_in, input_place as place_in}
use Rattle.page_model.specs.Words.{has_open_word as has_word_in}

-- whether a word is open that a word end would end: in a field it ends none
abbrev pub has_open_word : History → Bool
has_open_word h = not (is_in_field h) && has_word_in (plain h)

-- whether a glyph stands on the line of the input
abbrev pub has_line_glyph : History → Bool
has_line_glyph h = has_glyph_in (plain h)

-- the place on the line of the input, in columns: a gap in a field counts, the motion of an open field doesn't
abbrev pub input_place : History → ℕ
input_place h = place_in (plain h)

-- the pending line's length in bytes, the open word included, without the motion of an open field
abbrev pub pending_length : History → ℕ
pending_length h = length_in (plain h)

-- the greatest length to which an event brings the pending line: a tab in a field ends that first
abbrev pub length_reached : Event → History → ℕ
length_reached Tab h = max (pending_length (FieldEnd ∷ h)) (pending_length (Tab ∷ h))
length_reached e h = pending_length (e ∷ h)

-- the line that a tab finishes: the word before a gap at the end of a field ends with it
abbrev pub finished_by_tab : Told → Option Finished
finished_by_tab t =
    elim t.field [
      | None ↦ None
      | Some f ↦ if f.gap == 0 then None else finished_in (field_told (motion f) (without_gap f) t.events) WordEnd
    ]

-- the line that an event finishes, if it finishes one
abbrev pub finished : History → Event → Option Finished
finished h Tab = finished_by_tab (told_plainly h)
finished h WordEnd = if is_in_field h then None else finished_in (plain h) WordEnd
finished h LineEnd = finished_in (plain h) LineEnd
finished h Break = finished_in (plain h) Break
finished h (_) = None

-- the lines that a history finishes
abbrev pub finished_lines : History → List Finished
finished_lines [] = []
finished_lines (e ∷ h) = cons_option (finished h e) (finished_lines h)

-- the width of the last line that a history finished, in columns
abbrev pub last_width : History → ℕ
last_width h = newest_width (finished_lines h)

-- the text of the last line that a history finished
abbrev pub last_text : History → List ℕ
last_text h = newest_text (finished_lines h)
