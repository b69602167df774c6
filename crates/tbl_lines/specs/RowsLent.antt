-- A row whose lines are given, with all that stands in it, as it is lent to those that give them.
use Rattle.std.specs.Prelude.{◌≡◌, ℕ, ◌<◌, ◌≤◌, true, List, [], length, map, nat_lt, Option, None, Some, if◌then◌else◌}
use Rattle.std.specs.List.{AllByRecursion}
use Rattle.std.specs.Option.{MatchOption, option_map}
use Rattle.tbl_format.specs.Format.{FormatRow, columns_of_keys}
use Rattle.tbl_format.specs.FormatRows.{AreWithin}
use Rattle.tbl_format.specs.RowsServed.{row_at}
use Rattle.tbl_layout.specs.Spans.{cells_of}
use Rattle.tbl_layout.specs.declared.bars.Bars.{Bars}
use Rattle.tbl_layout.specs.declared.columns.Column.{Column}
use Rattle.tbl_layout.specs.declared.entry.Entry.{Entry}
use Rattle.tbl_layout.specs.KeptEntries.{Lies, all_entries}
use Rattle.tbl_lines.specs.PictureLines.{Cell, with_fronts}
use Rattle.tbl_lines.specs.RowsLeft.{cell_left, cell_of_front, from_line, fronts_by, row_columns}
use Rattle.tbl_lines.specs.RowsWalked.{AreNarrow, HasBars, PlacesLie, front_count}
use Rattle.tbl_lines.specs.declared.fronts.Front.{Front}
use Rattle.tbl_lines.specs.declared.row_lent.RowLent.{RowLent}
use Rattle.tbl_text.specs.declared.block_parts.BlockPlace.{BlockPlace}
use Rattle.tbl_text.specs.declared.block_parts.BlockPlace.TheVariants.{AtEnd, AtLine as AtPlace}

-- a row that is walked: its picture's bars, and how wide that is, the table's bytes, the row of the formats, the columns of each cell as
-- one, its lines and its fields, and what stands in front of each cell and behind the last, if its keys don't say that
pub record WalkedRow : Type 0 where
  pub bars : Bars
  pub width : ℕ
  pub bytes : List ℕ
  pub format : FormatRow
  pub columns : List Column
  pub height : ℕ
  pub entries : List Entry
  pub fronts : Option (List Cell)

-- one that is lent, and its row of the formats
abbrev pub lent_format : RowLent → FormatRow
lent_format row = record { keys = row.keys.now; bars = row.last_bars }

-- and all that stands in it
abbrev pub lent_entries : RowLent → List Entry
lent_entries row = all_entries (lent_format row) row.entries.now

-- the columns of each of its cells as one
abbrev pub lent_columns : RowLent → List Column
lent_columns row = cells_of row.keys.now row.columns.now

-- what stands in front of its cells, if that is given
abbrev pub lent_fronts : RowLent → Option (List Cell)
lent_fronts row = option_map (λ fronts. map cell_of_front fronts.now) row.fronts

-- these stand in front of so many cells, and behind the last
pub record AreFronts (columns : List Column) (fronts : List Front) : Type 0 where
  pub count : length fronts ≡ front_count columns
  pub some : AllByRecursion HasBars fronts

-- its cells have their columns; and where it is given what stands in front of them, that is as much as it has to be
pub record LiesInColumns (row : RowLent) : Type 0 where
  pub cells : AreWithin (length row.columns.now) row.keys.now
  pub narrow : AreNarrow row.columns.now
  pub few : length row.columns.now < 4294967296
  pub plain : row.is_plain ≡ true → columns_of_keys row.keys.now ≡ length row.keys.now
  pub fronts : MatchOption row.fronts (Unit {0}) (λ fronts. AreFronts (lent_columns row) fronts.now)

abbrev pub lent_row : RowLent → WalkedRow
lent_row row = record {
  bars = row.bars;
  width = row.width;
  bytes = row.bytes.now;
  format = lent_format row;
  columns = lent_columns row;
  height = row.height;
  entries = lent_entries row;
  fronts = lent_fronts row;
}

-- what stands in front of each cell of a row, and behind the last: what is given, or what its keys say; in a picture without bars
-- nothing
abbrev pub fronts_given : Bars → Option (List Cell) → List Cell → List Cell
fronts_given bars None by_keys = by_keys
fronts_given bars (Some fronts) by_keys = if bars.has_any then fronts else []

abbrev pub row_fronts_of : WalkedRow → List Cell
row_fronts_of row = fronts_given row.bars row.fronts (fronts_by row.bars row.width row.format row.columns row.entries)

-- what is given of that is as much as it has to be
abbrev pub HasFronts : WalkedRow → Type 0
HasFronts row = MatchOption row.fronts (Unit {0}) (λ fronts. length fronts ≡ front_count row.columns)

-- and from a line on
abbrev pub fronts_of : WalkedRow → ℕ → List Cell
fronts_of row line = map (from_line line) (row_fronts_of row)

-- all that is left of it from a line on, where its blocks go on at these places
abbrev pub line_cells : WalkedRow → ℕ → List BlockPlace → List Cell
line_cells row line places =
    with_fronts (fronts_of row line) (map (cell_left row.bytes line) (row_columns row.bars.boxing row.format 0 row.columns row.entries places))

-- a row of a table that is walked
abbrev pub walked : List ℕ → List FormatRow → Bars → ℕ → List Column → ℕ → ℕ → List Entry → WalkedRow
walked bytes formats bars width columns keys height entries = record {
  bars = bars;
  width = width;
  bytes = bytes;
  format = row_at formats keys;
  columns = cells_of (row_at formats keys).keys columns;
  height = height;
  entries = all_entries (row_at formats keys) entries;
  fronts = None;
}

-- the cells of a row stand in its columns and lie in the table's bytes, and so do these places, at which their blocks go on
pub record CellsLie (row : WalkedRow) (now : List BlockPlace) : Type 0 where
  pub short : length row.entries ≤ length row.columns
  pub narrow : AreNarrow row.columns
  pub lie : AllByRecursion (Lies row.bytes) row.entries
  pub places : PlacesLie row.bytes row.entries now

-- where the block of a field begins, if it is one
abbrev pub first_place : Entry → BlockPlace
first_place e = if nat_lt e.from e.to then AtPlace 0 None else AtEnd
