-- What is kept of the data of a table while it is read (Lesk, "Tbl": Data).
use Rattle.std.specs.Prelude.{◌≡◌, ℕ, ◌+◌, ◌-◌, ◌≤◌, ◌<◌, List, [], ◌∷◌, drop, length, map, get_or, Option, None, Some, false}
use Rattle.input_source.specs.Bytes.{newline}
use Rattle.std.specs.List.{AllByRecursion}
use Rattle.tbl_data.specs.TableRead.{RowBegun, TableRead}
use Rattle.tbl_data.specs.declared.phase.Phase.{Phase}
use Rattle.tbl_data.specs.declared.phase.Phase.TheVariants.{AtHead, Bad, InData, InFormat}
use Rattle.tbl_data.specs.declared.table_data.OpenBlock.{OpenBlock}
use Rattle.tbl_data.specs.declared.table_data.OpenBlock.TheVariants.{Dropped, Kept, Nothing}
use Rattle.tbl_data.specs.declared.table_data.TableData.{TableData}
use Rattle.tbl_format.specs.Format.{Format}
use Rattle.tbl_options.specs.Notes.{NotesWithin, told_of_all}
use Rattle.tbl_format.specs.RowsServed.{all_rows}
use Rattle.tbl_options.specs.declared.options.Options.{Options}
use Rattle.tbl_kept.specs.Rows.{Command, KeptElement, Row, RowBegunKept, Rule, elements_of}
use Rattle.tbl_layout.specs.Entries.{Block, Content}
use Rattle.tbl_layout.specs.KeptEntries.{IsBlock, content_of}
use Rattle.tbl_layout.specs.RuleKeys.{rule_rows}
use Rattle.tbl_layout.specs.declared.entry.Entry.{Entry}

-- the row of which a block is open that isn't dropped: the block is the last of its fields
abbrev pub with_content : Content → List Content → RowBegun
with_content (Block measure lines) contents = record { fields = contents; block = Some lines; had_surplus = false }
with_content content contents = record { fields = contents; block = Some []; had_surplus = false }

abbrev pub behind_field : Content → RowBegun → RowBegun
behind_field content row = record row { fields = content ∷ row.fields }

abbrev pub row_with_block : List Content → RowBegun
row_with_block [] = record { fields = []; block = Some []; had_surplus = false }
row_with_block (content ∷ []) = with_content content []
row_with_block (content ∷ next ∷ contents) = behind_field content (row_with_block (next ∷ contents))

-- the row that is begun, by these fields and the block that is open
abbrev pub begun_by : OpenBlock → List Content → Option RowBegun
begun_by Nothing contents = None
begun_by Kept contents = Some (row_with_block contents)
begun_by (Dropped had_surplus) contents = Some (record { fields = contents; block = None; had_surplus = had_surplus })

-- the table whose texts lie in these bytes, where no line goes on
abbrev pub table_by : Phase → Options → List ℕ → TableData → TableRead
table_by phase options bytes d = record {
  phase = phase;
  options = options;
  format = d.format.format;
  next_row = d.keys - d.rules - length d.format.format.earlier;
  pending = None;
  begun = begun_by d.open (map (content_of bytes) d.rows.row);
  body = elements_of bytes (all_rows d.format.format) d.rows.elements;
  notes = told_of_all bytes d.notes.notes;
}

-- the last of a row's fields is a block
abbrev pub EndsInBlock : List Entry → Type 0
EndsInBlock [] = ⊥
EndsInBlock (e ∷ []) = IsBlock e.kind
EndsInBlock (e ∷ next ∷ entries) = EndsInBlock (next ∷ entries)

-- no field of a row is kept where no block is open
abbrev pub OpenFits : OpenBlock → List Entry → Type 0
OpenFits Nothing row = row ≡ []
OpenFits Kept row = EndsInBlock row
OpenFits (Dropped had_surplus) row = Unit {0}

-- the last of them ends at a place
abbrev pub LastEndsAt : ℕ → List Entry → Type 0
LastEndsAt place [] = ⊥
LastEndsAt place (e ∷ []) = e.to ≡ place
LastEndsAt place (e ∷ next ∷ entries) = LastEndsAt place (next ∷ entries)

-- a block that is kept and open has its last line, or the one that opens it, up to there
abbrev pub OpenEndsAt : ℕ → OpenBlock → List Entry → Type 0
OpenEndsAt place Nothing row = Unit {0}
OpenEndsAt place Kept row = LastEndsAt place row
OpenEndsAt place (Dropped had_surplus) row = Unit {0}

-- the line that begins at a place stands behind the newline of the last one of the block
pub record StandsBehind (bytes : List ℕ) (from : ℕ) (row : List Entry) : Type 0 where
  pub some : 1 ≤ from
  pub newline : get_or bytes (from - 1) 0 ≡ newline
  pub ends : LastEndsAt (from - 1) row

-- where such a block is open
abbrev pub OpenBehind : List ℕ → ℕ → OpenBlock → List Entry → Type 0
OpenBehind bytes from Nothing row = Unit {0}
OpenBehind bytes from Kept row = StandsBehind bytes from row
OpenBehind bytes from (Dropped had_surplus) row = Unit {0}

-- the row from one of all on that takes a row of the data serves the next one
abbrev pub serving_from : ℕ → TableData → TableData
serving_from first d =
    let rules = rule_rows (drop first (all_rows d.format.format)) in
    record d { keys = first + rules; rules = rules }

-- a row of the last format serves the next row of the data, and those in front of it that weren't served are rows of rule keys
pub record Serves (f : Format) (keys rules : ℕ) : Type 0 where
  pub first : length f.earlier + rules ≤ keys
  pub serves : keys < length (all_rows f)
  pub skipped : rule_rows (drop (keys - rules) (all_rows f)) ≡ rules

-- between two lines of the data: the format is whole, one of its rows serves the next row, and the columns are those of all
-- formats
pub record DataFits (bytes : List ℕ) (d : TableData) : Type 0 where
  pub kept : RowBegunKept bytes (all_rows d.format.format) d.keys d.rows
  pub block : OpenFits d.open d.rows.row
  pub columns : length d.rows.columns ≡ length d.format.format.asked
  pub served : Serves d.format.format d.keys d.rules
  pub whole : d.format.format.row ≡ []
  pub notes : NotesWithin (length bytes) d.notes.notes

-- where a further format is to be read: no row is begun, and the first of its rows will serve the next row
pub record FormatFits (bytes : List ℕ) (d : TableData) : Type 0 where
  pub kept : RowBegunKept bytes (all_rows d.format.format) d.keys d.rows
  pub closed : d.open ≡ Nothing
  pub none : d.rows.row ≡ []
  pub columns : length d.rows.columns ≤ length d.format.format.asked
  pub first : d.keys ≡ length d.format.format.earlier
  pub rules : d.rules ≡ 0
  pub notes : NotesWithin (length bytes) d.notes.notes

-- what is kept ends by a place
abbrev pub EntryEnds : ℕ → Entry → Type 0
EntryEnds place e = e.to ≤ place

abbrev pub ElementEnds : ℕ → KeptElement → Type 0
ElementEnds place (Row keys rules height entries) = AllByRecursion (EntryEnds place) entries
ElementEnds place (Rule sign) = Unit {0}
ElementEnds place (Command from to) = to ≤ place

pub record EndsBy (place : ℕ) (d : TableData) : Type 0 where
  pub elements : AllByRecursion (ElementEnds place) d.rows.elements
  pub row : AllByRecursion (EntryEnds place) d.rows.row
  pub notes : NotesWithin place d.notes.notes

-- behind a fault
pub record BadFits (bytes : List ℕ) (d : TableData) : Type 0 where
  pub closed : d.open ≡ Nothing
  pub notes : NotesWithin (length bytes) d.notes.notes

-- behind a line of the data, by what is read then
abbrev pub FitsBehind : Phase → List ℕ → TableData → Type 0
FitsBehind AtHead bytes d = ⊥
FitsBehind InFormat bytes d = FormatFits bytes d
FitsBehind InData bytes d = DataFits bytes d
FitsBehind Bad bytes d = BadFits bytes d

-- what stays of the parts
pub record SameRooms (old new : TableData) : Type 0 where
  pub entries : new.rows.entry_room ≡ old.rows.entry_room
  pub elements : new.rows.element_room ≡ old.rows.element_room
  pub columns : new.rows.column_room ≡ old.rows.column_room
  pub notes : new.notes.note_room ≡ old.notes.note_room
  pub keys : new.format.key_room ≡ old.format.key_room
  pub asked : new.format.column_room ≡ old.format.column_room
  pub escapes : new.escapes.room ≡ old.escapes.room
