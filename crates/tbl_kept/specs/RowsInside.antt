-- How the rows of a table lie in lists.
use Rattle.std.specs.Prelude.{◌≡◌, ℕ, ◌<◌, ◌≤◌, false, List, [], ◌∷◌, drop, length, map, vec_capacity}
use Rattle.std.specs.List.{slice_range}
use Rattle.tbl_kept.specs.Rows.{Command, KeptElement, KeptRows, Row, Rule}
use Rattle.tbl_kept.specs.RowsLaying.{NoBlocks, NoneGoOn}
use Rattle.tbl_kept.specs.declared.rows.Element.{Element}
use Rattle.tbl_kept.specs.declared.rows.Element.TheVariants.{Command as OneCommand, Row as OneRow, Rule as OneRule}
use Rattle.tbl_kept.specs.declared.rows.KeptRow.{KeptRow}
use Rattle.tbl_kept.specs.declared.rows.Lefts.{Lefts}
use Rattle.tbl_kept.specs.declared.rows.TableRows.TheInside.{Inside}
use Rattle.tbl_layout.specs.declared.entry.Entry.{Entry}

-- what an element is whose fields lie among these
abbrev pub kept_in : List Entry → Element → KeptElement
kept_in entries (OneRow row) = Row row.keys row.rules row.height (slice_range entries row.from row.to)
kept_in entries (OneRule sign) = Rule sign
kept_in entries (OneCommand from to) = Command from to

abbrev pub kept_by : Inside → KeptRows
kept_by a = record {
  elements = map (kept_in a.entries.items) a.elements.items;
  row = drop a.row_start a.entries.items;
  columns = a.columns.items;
  entry_room = a.entry_room;
  element_room = a.element_room;
  column_room = a.column_room;
}

-- the fields of rows lie one row after another, from a place up to one
abbrev pub LieBetween : ℕ → List Element → ℕ → Type 0
LieBetween from [] to = from ≡ to
LieBetween from (OneRow row ∷ elements) to = (from ≡ row.from) × (from ≤ row.to) × LieBetween row.to elements to
LieBetween from (OneRule sign ∷ elements) to = LieBetween from elements to
LieBetween from (OneCommand start end ∷ elements) to = LieBetween from elements to

-- an element is a row of one of so many rows of formats, whose fields lie among so many
pub record RowLiesIn (fields formats : ℕ) (row : KeptRow) : Type 0 where
  pub order : row.from ≤ row.to
  pub within : row.to ≤ fields
  pub serves : row.keys < formats

abbrev pub LiesIn : ℕ → ℕ → Element → Type 0
LiesIn fields formats (OneRow row) = RowLiesIn fields formats row
LiesIn fields formats (OneRule sign) = Unit {0}
LiesIn fields formats (OneCommand from to) = Unit {0}

-- there is room for what is left of so many cells, of a row and of the one above it
pub record HaveRoom (n : ℕ) (lefts : Lefts) : Type 0 where
  pub here : n ≤ vec_capacity lefts.here
  pub above : n ≤ vec_capacity lefts.above

-- the room is reserved, the rows lie in front of the one that is begun, and no field is a block, or goes on with the cell above it, where
-- it says that there is none
pub record IsSound (a : Inside) : Type 0 where
  pub entries_reserved : a.entry_room ≤ vec_capacity a.entries
  pub elements_reserved : a.element_room ≤ vec_capacity a.elements
  pub columns_reserved : a.column_room ≤ vec_capacity a.columns
  pub start : a.row_start ≤ length a.entries.items
  pub rows : LieBetween 0 a.elements.items a.row_start
  pub no_blocks : a.has_block ≡ false → NoBlocks a.entries.items
  pub no_above : a.has_above ≡ false → NoneGoOn a.entries.items
  pub columns_few : length a.columns.items ≤ a.column_room
  pub lefts_reserved : HaveRoom a.column_room a.lefts
