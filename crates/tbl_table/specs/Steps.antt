-- What a line of a table does to the parts that keep it.
use Rattle.std.specs.Prelude.{◌≡◌, ◌<◌, ◌≤◌, ◌+◌, ℕ, suc, drop, nat_lt, Bool, true, false, List, [], ◌∷◌, ◌++◌, length, Option, None, Some, map, replicate, take, if◌then◌else◌}
use Rattle.roff_num.specs.declared.limit.Limit.{Limit}
use Rattle.roff_num.specs.declared.limit.Limit.TheVariants.{Width}
use Rattle.input_source.specs.Bytes.{newline}
use Rattle.tbl_format.specs.Format.{Format, format_read, letters_left_out, no_format}
use Rattle.tbl_format.specs.FormatRows.{keeping}
use Rattle.tbl_options.specs.Notes.{cut_note, ignored_message, left_out_note, told_at}
use Rattle.tbl_options.specs.Options.{ignored_options}
use Rattle.tbl_format.specs.RowsServed.{all_rows}
use Rattle.tbl_kept.specs.RowsLaying.{AreOpened}
use Rattle.tbl_kept.specs.Rows.{cleared, entries_of, no_rows, with_columns}
use Rattle.tbl_layout.specs.KeptEntries.{content_of}
use Rattle.tbl_data.specs.DataRead.{closed_block}
use Rattle.tbl_data.specs.LineTaken.{cells_next}
use Rattle.tbl_data.specs.TableData.{DataFits, SameRooms, begun_by, serving_from, table_by}
use Rattle.tbl_options.specs.declared.options.Options.{Options}
use Rattle.tbl_kept.specs.TableNotes.{KeptNotes, no_notes}
use Rattle.tbl_data.specs.declared.phase.Phase.{Phase}
use Rattle.tbl_data.specs.declared.phase.Phase.TheVariants.{AtHead, Bad, InData, InFormat}
use Rattle.tbl_data.specs.declared.table_data.OpenBlock.TheVariants.{Nothing}
use Rattle.tbl_data.specs.declared.table_data.TableData.{TableData}
use Rattle.tbl_giving.specs.Giving.{with_newline}
use Rattle.tbl_table.specs.Reading.{Reading}
use Rattle.tbl_table.specs.Table.{TableRead}
use Rattle.tbl_format.specs.declared.format.FormatPlace.{FormatPlace}
use Rattle.tbl_format.specs.declared.format.FormatPlace.TheVariants.{AtEnd, AtFault, InRows}
use Rattle.tbl_options.specs.declared.message.Told.{Told}
use Rattle.tbl_options.specs.declared.notes.Cause.{Cause}
use Rattle.tbl_options.specs.declared.notes.Cause.TheVariants.{BadFormat}

-- one message more
abbrev pub with_cause : ℕ → Cause → KeptNotes → KeptNotes
with_cause line cause k = record k { notes = k.notes ++ record { line = line; cause = cause } ∷ [] }

-- all are to tell, and then of so many entries that they are cut
abbrev pub with_cut : ℕ → ℕ → KeptNotes → KeptNotes
with_cut line count k = record k { to_tell = k.notes ++ replicate count (cut_note line) }

-- nothing is kept
abbrev pub emptied : TableData → TableData
emptied d = record d {
  format = keeping d.format no_format;
  keys = 0;
  rules = 0;
  rows = cleared d.rows;
  «open» = Nothing;
  notes = no_notes d.notes.note_room;
}

-- there is so much room, for keys, fields, rows and commands, and for columns
abbrev pub roomy : ℕ → ℕ → TableData → TableData
roomy text columns d = record d {
  format = record { format = no_format; key_room = text; column_room = columns };
  keys = 0;
  rules = 0;
  rows = no_rows text text columns;
  «open» = Nothing;
  notes = no_notes (text + 2);
}

-- what is read behind keys, by where their reading stands
abbrev pub phase_behind : FormatPlace → Phase
phase_behind (InRows part) = InFormat
phase_behind AtEnd = InData
phase_behind AtFault = Bad

-- what is left out of keys
abbrev pub letters_noted : ℕ → List ℕ → KeptNotes → KeptNotes
letters_noted line letters k = record k { notes = k.notes ++ map (left_out_note line) letters }

-- a fault is reported
abbrev pub fault_noted : FormatPlace → ℕ → KeptNotes → KeptNotes
fault_noted (InRows part) line k = k
fault_noted AtEnd line k = k
fault_noted AtFault line k = with_cause line BadFormat k

abbrev pub data_refused : ℕ → TableData → TableData
data_refused line d = record d { notes = with_cause line BadFormat d.notes }

-- the rows go on behind the format: its first serves the next
abbrev pub data_behind : FormatPlace → ℕ → TableData → TableData
data_behind (InRows part) line d = d
data_behind AtEnd line d =
    serving_from (length d.format.format.earlier) (record d { rows = with_columns (length d.format.format.asked) d.rows })
data_behind AtFault line d = data_refused line d

-- behind keys
abbrev pub with_keys : ℕ → List ℕ → TableData → TableData
with_keys line keys d =
    let f = format_read d.format.format keys in
    data_behind f.place line
    (record d { format = keeping d.format f; notes = letters_noted line (letters_left_out d.format.format keys) d.notes })

-- what is left out of a first line, by where its options end
abbrev pub head_letters : Option ℕ → Format → List ℕ → List ℕ
head_letters None f line = letters_left_out f line
head_letters (Some end) f line = letters_left_out f (drop (suc end) line)

-- behind a line that makes this of the table
abbrev pub ended_with : TableRead → Reading → Reading
ended_with t r = record { table = t; read = r.read ++ r.line ++ newline ∷ []; line = [] }

-- what is read behind the last line of keys, which has no newline, and what is reported of it
abbrev pub phase_at_last : FormatPlace → Phase
phase_at_last (InRows part) = InFormat
phase_at_last AtEnd = InFormat
phase_at_last AtFault = Bad

-- what is reported of the options that end there
abbrev pub options_told : Option ℕ → ℕ → List ℕ → List Told
options_told None line block = []
options_told (Some end) line block = map (λ word. told_at line (ignored_message word)) (ignored_options (take end block))

-- whether options or a format are read
abbrev pub is_front : Phase → Bool
is_front AtHead = true
is_front InFormat = true
is_front InData = false
is_front Bad = false

-- the block that is open can end, with its row
pub record CanEnd (d : TableData) : Type 0 where
  pub room : length d.rows.elements < d.rows.element_room
  pub serves : d.keys < length (all_rows d.format.format)
  pub rules : d.rules ≤ d.keys
  pub columns : length d.rows.columns ≡ length d.format.format.asked
  pub short : length d.rows.row ≤ cells_next d
  pub few : entries_of d.rows < 4294967296
  pub opened : AreOpened d.rows.row

-- it ends
pub record BlockEnds (old new : TableData) : Type 0 where
  pub table : (options : Options) (bytes : List ℕ) → DataFits bytes old
      → table_by InData options bytes new ≡ closed_block (begun_by old.open (map (content_of bytes) old.rows.row)) (table_by InData options bytes old)
  pub fits : (bytes : List ℕ) → DataFits bytes old → DataFits bytes new
  pub entries : entries_of new.rows ≤ entries_of old.rows
  pub elements : length new.rows.elements ≤ length old.rows.elements + 1
  pub closed : new.open ≡ Nothing
  pub notes : new.notes ≡ old.notes
  pub format : new.format ≡ old.format
  pub rooms : SameRooms old new

-- the limit on the width that a picture meets
abbrev pub width_met : ℕ → ℕ → Option Limit
width_met most width = if nat_lt most width then Some Width else None

-- what is given where no limit is met
abbrev pub given_within : Option Limit → List ℕ → List ℕ
given_within None bytes = bytes
given_within (Some limit) bytes = []

-- the line that ends a table, and a newline behind it or none
abbrev pub behind_line : Bool → Reading → Reading
behind_line has_newline r = record r { line = with_newline has_newline r.line }
