-- What a line of the data adds to what is kept of a table, and what holds while it is taken (Lesk, "Tbl": Data).
use Rattle.std.specs.Prelude.{◌≡◌, ℕ, ◌+◌, ◌-◌, ◌≤◌, ◌<◌, ◌^◌, Bool, true, List, [], ◌∷◌, ◌++◌, length, map, None, Some, option_map, if◌then◌else◌}
use Rattle.std.specs.List.{slice_range}
use Rattle.tbl_data.specs.DataRead.{notes_of_field, row_opened, with_block_line, with_fields, with_line, with_row, with_text}
use Rattle.tbl_data.specs.TableData.{DataFits, EndsBy, FitsBehind, OpenEndsAt, SameRooms, Serves, row_with_block, table_by}
use Rattle.tbl_data.specs.TableRead.{RowBegun, TableRead, with_notes}
use Rattle.tbl_data.specs.declared.data_line.DataLine.{DataLine}
use Rattle.tbl_data.specs.declared.phase.Phase.{Phase}
use Rattle.tbl_data.specs.declared.phase.Phase.TheVariants.{InData}
use Rattle.tbl_data.specs.declared.table_data.OpenBlock.{OpenBlock}
use Rattle.tbl_data.specs.declared.table_data.OpenBlock.TheVariants.{Dropped, Kept, Nothing}
use Rattle.tbl_data.specs.declared.table_data.TableData.{TableData}
use Rattle.tbl_options.specs.Notes.{NotesWithin}
use Rattle.tbl_format.specs.Cells.{cell_count}
use Rattle.tbl_format.specs.RowsServed.{all_rows, row_at}
use Rattle.tbl_format.specs.declared.format.Key.{Key}
use Rattle.tbl_options.specs.declared.notes.Cause.TheVariants.{NotMeasured, TooManyFields}
use Rattle.tbl_options.specs.declared.notes.KeptNote.{KeptNote}
use Rattle.tbl_options.specs.declared.options.Options.{Options}
use Rattle.tbl_kept.specs.Joined.{ends_joined, line_at}
use Rattle.tbl_kept.specs.Rows.{RowBegunKept, entries_of}
use Rattle.tbl_kept.specs.TableNotes.{KeptNotes}
use Rattle.tbl_kept.specs.TableText.{KeptText, block_of}
use Rattle.tbl_layout.specs.Data.{fields}
use Rattle.tbl_layout.specs.declared.data_lines.BlockLineKind.{BlockLineKind}
use Rattle.tbl_layout.specs.declared.data_lines.LineKind.{LineKind}
use Rattle.tbl_layout.specs.Entries.{Content, content_under, key_at}
use Rattle.tbl_layout.specs.KeptEntries.{content_of}
use Rattle.tbl_text.specs.declared.measure.Note.{Note}

-- a line lies within these bytes
pub record LineLies (bytes : List ℕ) (line : DataLine) : Type 0 where
  pub order : line.from ≤ line.to
  pub within : line.to ≤ length bytes
  pub small : line.to < 2 ^ 32

-- a place in it
pub record IsOnLine (line : DataLine) (at : ℕ) : Type 0 where
  pub from : line.from ≤ at
  pub to : at ≤ line.to

-- the bytes of the line from a place on, and what the fields of the row are that is begun
abbrev pub left_from : KeptText → DataLine → ℕ → List ℕ
left_from k line at = slice_range (block_of k) at line.to

abbrev pub contents_in : KeptText → TableData → List Content
contents_in k d = map (content_of (block_of k)) d.rows.row

-- messages that are kept, more
abbrev pub more_notes : List KeptNote → KeptNotes → KeptNotes
more_notes notes k = record k { notes = k.notes ++ notes }

-- what is told of a text that begins at a place of a line, as it is kept
abbrev pub notes_kept : List (ℕ × ℕ) → ℕ → ℕ → List Note → List KeptNote
notes_kept ends n place notes = map (λ note. record { line = line_at ends (place + note.place) n; cause = NotMeasured note.byte }) notes

-- and of surplus fields
abbrev pub surplus_kept : Bool → ℕ → List KeptNote
surplus_kept is_first line = if is_first then record { line = line; cause = TooManyFields } ∷ [] else []

-- between two fields, and where a row ends: the formats are whole, one of their rows serves the row that is begun
pub record RowFits (bytes : List ℕ) (d : TableData) : Type 0 where
  pub kept : RowBegunKept bytes (all_rows d.format.format) d.keys d.rows
  pub columns : length d.rows.columns ≡ length d.format.format.asked
  pub served : Serves d.format.format d.keys d.rules
  pub small : length (all_rows d.format.format) < 2 ^ 32
  pub whole : d.format.format.row ≡ []
  pub notes : NotesWithin (length bytes) d.notes.notes

-- there is room for so many fields and messages more, and for a row
pub record HasRoom (count : ℕ) (d : TableData) : Type 0 where
  pub entries : entries_of d.rows + count ≤ d.rows.entry_room
  pub small : d.rows.entry_room < 2 ^ 32
  pub elements : length d.rows.elements < d.rows.element_room
  pub notes : length d.notes.notes + count ≤ d.notes.note_room

-- there are so many fields and messages more at the most, and so many rows and commands
pub record Grows (count added : ℕ) (old new : TableData) : Type 0 where
  pub entries : entries_of new.rows ≤ entries_of old.rows + count
  pub elements : length new.rows.elements ≤ length old.rows.elements + added
  pub notes : length new.notes.notes ≤ length old.notes.notes + count
  pub to_tell : new.notes.to_tell ≡ old.notes.to_tell
  pub rooms : SameRooms old new

-- how many cells the row that is begun has
abbrev pub cells_next : TableData → ℕ
cells_next d = cell_count (row_at (all_rows d.format.format) d.keys).keys (length d.format.format.asked)

-- the key of the cell that comes next
abbrev pub key_next : TableData → Key
key_next d = key_at (row_at (all_rows d.format.format) d.keys) (length d.rows.row)

-- one field more of the row that is begun, which lies there
pub record TakesField (k : KeptText) (line : DataLine) (at end : ℕ) (old new : TableData) : Type 0 where
  pub table : (options : Options) → table_by InData options (block_of k) new
      ≡ with_notes (notes_of_field (key_next old) (ends_joined k.pending) line.number (at - line.from) (slice_range (block_of k) at end))
      (table_by InData options (block_of k) old)
  pub row : contents_in k new ≡ contents_in k old ++ content_under (key_next old) (slice_range (block_of k) at end) ∷ []
  pub fits : RowFits (block_of k) new
  pub cells : cells_next new ≡ cells_next old
  pub closed : new.open ≡ old.open
  pub settled : EndsBy line.to old → EndsBy line.to new
  pub grown : Grows (end - at + 1) 0 old new

-- the row is whole that is begun
pub record EndsRow (bytes : List ℕ) (old new : TableData) : Type 0 where
  pub table : (options : Options) → table_by InData options bytes new ≡ with_row (map (content_of bytes) old.rows.row) (table_by InData options bytes old)
  pub fits : DataFits bytes new

-- a text block opens behind the fields of the row that is begun, in the cell that comes next, or without one
pub record OpensBlock (bytes : List ℕ) (had_surplus : Bool) (old new : TableData) : Type 0 where
  pub table : (options : Options) → table_by InData options bytes new
      ≡ record (table_by InData options bytes old) { begun = Some (row_opened had_surplus (key_next old) (map (content_of bytes) old.rows.row)) }
  pub fits : DataFits bytes new

-- a line is done, or what is left of it: what that makes of the table, what is read then, and where a block ends that is open
pub record Makes (k : KeptText) (line : DataLine) (count : ℕ) (make : TableRead → TableRead) (phase : Phase) (old new : TableData) : Type 0 where
  pub table : (options : Options) → options.separator ≡ line.separator
      → table_by phase options (block_of k) new ≡ make (table_by InData options (block_of k) old)
  pub fits : FitsBehind phase (block_of k) new
  pub ends : OpenEndsAt line.to new.open new.rows.row
  pub settled : EndsBy line.to old → EndsBy line.to new
  pub grown : Grows count 1 old new

-- what the fields from a place on make of it
abbrev pub fields_made : KeptText → DataLine → ℕ → Bool → TableData → TableRead → TableRead
fields_made k line at had_surplus d t =
    with_fields (ends_joined k.pending) line.number (at - line.from) (fields line.separator (left_from k line at)) (contents_in k d) had_surplus t

abbrev pub last_made : KeptText → DataLine → ℕ → Bool → TableData → TableRead → TableRead
last_made k line at had_surplus d t =
    with_fields (ends_joined k.pending) line.number (at - line.from) (left_from k line at ∷ []) (contents_in k d) had_surplus t

-- what a whole line of a kind makes of it, where no block is open, and where one is
abbrev pub made_by : LineKind → KeptText → DataLine → TableRead → TableRead
made_by kind k line t = with_line kind (ends_joined k.pending) line.number (left_from k line line.from) t

abbrev pub row_begun : OpenBlock → List Content → RowBegun
row_begun Nothing contents = record { fields = contents; block = None; had_surplus = true }
row_begun Kept contents = row_with_block contents
row_begun (Dropped had_surplus) contents = record { fields = contents; block = None; had_surplus = had_surplus }

abbrev pub block_line_made : BlockLineKind → KeptText → DataLine → TableData → TableRead → TableRead
block_line_made kind k line d t =
    with_block_line kind (ends_joined k.pending) line.number (left_from k line line.from) (row_begun d.open (contents_in k d)) t

-- the block that is open has a line more
abbrev pub text_made : KeptText → DataLine → TableRead → TableRead
text_made k line t = record t { begun = option_map (with_text (left_from k line line.from)) t.begun }
