-- What the parts of a table hold together.
use Rattle.std.specs.Prelude.{◌≡◌, ◌==◌, false, All, ℕ, ◌+◌, ◌≤◌, ◌<◌, min, List, [], ◌++◌, length, Option, None, Some}
use Rattle.std.specs.List.{AllByRecursion}
use Rattle.input_source.specs.Bytes.{newline}
use Rattle.tbl_table.specs.Begun.{FewKeys, begun_in}
use Rattle.tbl_format.specs.Format.{Format, no_format}
use Rattle.tbl_format.specs.FormatLaws.{IsRead}
use Rattle.tbl_format.specs.FormatRows.{key_count, keys_of}
use Rattle.tbl_format.specs.KeyCounts.{StandsOnLine}
use Rattle.tbl_kept.specs.Joined.{Joined, behind_joined}
use Rattle.tbl_options.specs.Notes.{NotesWithin, told_of_all}
use Rattle.tbl_table.specs.MayTell.{fault_may_come, line_may_tell}
use Rattle.tbl_giving.specs.Giving.{CanGive, coming}
use Rattle.tbl_table.specs.Reading.{KeptTable, Reading}
use Rattle.tbl_table.specs.Table.{TableRead}
use Rattle.tbl_kept.specs.Rows.{entries_of}
use Rattle.tbl_kept.specs.TableText.{KeptText}
use Rattle.tbl_data.specs.TableData.{BadFits, DataFits, ElementEnds, FormatFits, OpenBehind, table_by}
use Rattle.tbl_data.specs.declared.phase.Phase.{Phase}
use Rattle.tbl_data.specs.declared.phase.Phase.TheVariants.{AtHead, Bad, InData, InFormat}
use Rattle.tbl_data.specs.declared.table_data.OpenBlock.{OpenBlock}
use Rattle.tbl_data.specs.declared.table_data.OpenBlock.TheVariants.{Dropped, Kept, Nothing}
use Rattle.tbl_data.specs.declared.table_data.TableData.{TableData}
use Rattle.tbl_table.specs.declared.begun.Begun.{Begun}
use Rattle.tbl_format.specs.declared.format.FormatPlace.{FormatPlace}
use Rattle.tbl_format.specs.declared.format.FormatPlace.TheVariants.{AtEnd, AtFault, InRows}
use Rattle.tbl_format.specs.declared.limits.TblLimits.{TblLimits}
use Rattle.tbl_options.specs.declared.options.Options.{Options}
use Rattle.tbl_table.specs.declared.table.Table.TheInside.{Inside}

-- the table that the parts give
abbrev pub table_of : Phase → Options → KeptText → TableData → TableRead
table_of phase options text d = record (table_by phase options text.settled d) { pending = text.pending }

abbrev pub reading_of : Phase → Options → KeptText → TableData → Reading
reading_of phase options text d = record { table = table_of phase options text d; read = text.read; line = text.line }

abbrev pub kept_by : Inside → KeptTable
kept_by a = record {
  limits = a.limits;
  reading = reading_of a.phase a.options a.text a.kept;
  told = told_of_all a.text.settled a.kept.notes.to_tell;
  to_come = coming a.text a.kept.rows a.kept.format a.giving;
}

-- the room of each part
pub record HasRooms (l : TblLimits) (text_room : ℕ) (d : TableData) : Type 0 where
  pub text : text_room ≡ l.text
  pub keys : d.format.key_room ≡ l.text
  pub asked : d.format.column_room ≡ min l.columns l.text
  pub entries : d.rows.entry_room ≡ l.text
  pub elements : d.rows.element_room ≡ l.text
  pub columns : d.rows.column_room ≡ min l.columns l.text
  pub notes : d.notes.note_room ≡ l.text + 2
  pub small : l.text < 4294967296
  pub narrow : l.columns < 4294967296
  pub wide : l.width < 4294967296

-- the bytes
pub record TextFits (l : TblLimits) (settled : List ℕ) (pending : Option Joined) (line read : List ℕ) : Type 0 where
  pub few : length read ≤ l.text
  pub most : length read + length line ≤ l.text + 4
  pub block : length (settled ++ behind_joined pending []) ≤ length read
  pub one_line : All (λ b. (b == newline) ≡ false) (behind_joined pending line)

-- where a key was read there is a column
abbrev pub HasColumns : Format → Type 0
HasColumns f = 0 < length f.earlier + length f.rows + length f.row → 0 < length f.asked

-- a format that has ended has a row, and none is begun
pub record IsWhole (f : Format) : Type 0 where
  pub some : 0 < length f.rows
  pub none : f.row ≡ []

-- each row that is whole has a key, and a key has a column
pub record HasKeys (f : Format) : Type 0 where
  pub few : length f.earlier + length f.rows ≤ keys_of f.earlier + keys_of f.rows
  pub wide : HasColumns f

abbrev pub EndFits : FormatPlace → Format → Type 0
EndFits (InRows part) f = Unit {0}
EndFits AtEnd f = IsWhole f
EndFits AtFault f = Unit {0}

-- the line that is begun, and the keys
pub record KeysFit (l : TblLimits) (read line : List ℕ) (phase : Phase) (begun : Begun) (f : Format) : Type 0 where
  pub is : begun ≡ begun_in phase f line
  pub made : IsRead f
  pub few : FewKeys (l.columns + length line) (length line) begun
  pub keys : key_count f ≤ length read
  pub asked : length f.asked ≤ length read
  pub columns : length f.asked ≤ l.columns
  pub rows : HasKeys f
  pub ended : EndFits f.place f
  pub stands : StandsOnLine 0 f.place

-- in the data a line of the format was read
abbrev pub data_read : Phase → ℕ
data_read AtHead = 0
data_read InFormat = 0
data_read InData = 1
data_read Bad = 0

-- rows that are yet to end: one at most
abbrev pub block_open : OpenBlock → ℕ
block_open Nothing = 0
block_open Kept = 1
block_open (Dropped had_surplus) = 1

abbrev pub row_open : Option Joined → OpenBlock → ℕ
row_open None block = block_open block
row_open (Some j) block = 1

-- behind a fault no more are kept
abbrev pub kept_in : Phase → ℕ → ℕ
kept_in AtHead n = n
kept_in InFormat n = n
kept_in InData n = n
kept_in Bad n = 0

-- the fields and the rows are fewer than the bytes
pub record RowsFit (pending : Option Joined) (read : List ℕ) (phase : Phase) (d : TableData) : Type 0 where
  pub entries : kept_in phase (entries_of d.rows) + line_may_tell pending + data_read phase ≤ length read
  pub elements : kept_in phase (length d.rows.elements) + row_open pending d.open + data_read phase ≤ length read

-- and so are the messages, but for one
pub record NotesFit (settled : List ℕ) (pending : Option Joined) (read : List ℕ) (phase : Phase) (d : TableData) : Type 0 where
  pub few : length d.notes.notes + line_may_tell pending + fault_may_come phase ≤ length read + 1
  pub telling : NotesWithin (length settled) d.notes.to_tell

-- before the first line nothing was read
pub record NothingRead (settled : List ℕ) (pending : Option Joined) (d : TableData) : Type 0 where
  pub no_bytes : settled ≡ []
  pub alone : pending ≡ None
  pub no_keys : d.format.format ≡ no_format
  pub no_rows : d.rows.elements ≡ []
  pub no_notes : d.notes.notes ≡ []
  pub untold : d.notes.to_tell ≡ []
  pub fits : FormatFits settled d

-- lines go on in the data alone
pub record FormatReads (settled : List ℕ) (pending : Option Joined) (d : TableData) : Type 0 where
  pub alone : pending ≡ None
  pub fits : FormatFits settled d

pub record DataReads (settled : List ℕ) (d : TableData) : Type 0 where
  pub fits : DataFits settled d
  pub behind : OpenBehind settled (length settled) d.open d.rows.row

pub record FaultRead (settled : List ℕ) (pending : Option Joined) (d : TableData) : Type 0 where
  pub alone : pending ≡ None
  pub lies : AllByRecursion (ElementEnds (length settled)) d.rows.elements
  pub fits : BadFits settled d

abbrev pub PhaseFits : Phase → List ℕ → Option Joined → TableData → Type 0
PhaseFits AtHead settled pending d = NothingRead settled pending d
PhaseFits InFormat settled pending d = FormatReads settled pending d
PhaseFits InData settled pending d = DataReads settled d
PhaseFits Bad settled pending d = FaultRead settled pending d

-- all of it, but for what is to give
pub record PartsFit (l : TblLimits) (phase : Phase) (begun : Begun) (text : KeptText) (d : TableData) : Type 0 where
  pub rooms : HasRooms l text.text_room d
  pub bytes : TextFits l text.settled text.pending text.line text.read
  pub keys : KeysFit l text.read text.line phase begun d.format.format
  pub rows : RowsFit text.pending text.read phase d
  pub messages : NotesFit text.settled text.pending text.read phase d
  pub by_phase : PhaseFits phase text.settled text.pending d

pub record IsSound (a : Inside) : Type 0 where
  pub parts : PartsFit a.limits a.phase a.begun a.text a.kept
  pub giving : CanGive a.text a.kept.rows a.kept.format a.giving
  pub columns : a.giving.columns ≡ min a.limits.columns a.limits.text
