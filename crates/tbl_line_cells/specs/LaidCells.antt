-- The cells of a line, each in a column of its own, and what they show (Lesk, "Tbl": Formatting).
use Rattle.std.specs.Prelude.{◌≡◌, ℕ, suc, nat_lt, Bool, true, false, ◌&&◌, ◌==◌, List, [], ◌∷◌, Option, None, Some, if◌then◌else◌}
use Rattle.tbl_format.specs.declared.format.Key.TheVariants.{Left as LeftKey}
use Rattle.tbl_layout.specs.DataLines.{sign_byte}
use Rattle.tbl_layout.specs.Entries.{Run, is_number}
use Rattle.tbl_layout.specs.KeptEntries.{IsLaid, Lies, content_of, text_entry}
use Rattle.tbl_layout.specs.declared.columns.Column.{Column}
use Rattle.tbl_layout.specs.declared.data_lines.RuleSign.{RuleSign}
use Rattle.tbl_layout.specs.declared.entry.Entry.{Entry}
use Rattle.tbl_layout.specs.declared.entry.EntryKind.{EntryKind}
use Rattle.tbl_layout.specs.declared.entry.EntryKind.TheVariants.{Block, Repeated, Ruled, Split, Text}
use Rattle.tbl_lines.specs.CellsLeft.{Left}
use Rattle.tbl_lines.specs.LinesLeft.{Shown, shown_cell}
use Rattle.tbl_lines.specs.PictureLines.{Cell, nothing_there}
use Rattle.tbl_lines.specs.RowsLeft.{block_text, cell_left, first_of}
use Rattle.tbl_lines.specs.RowsWalked.{IsNarrow}
use Rattle.tbl_lines.specs.declared.row_columns.RowColumn.{RowColumn}
use Rattle.tbl_text.specs.BlockPlaces.{IsWithin, place_within}
use Rattle.tbl_text.specs.declared.block_parts.BlockPlace.TheVariants.{AtEnd}
use Rattle.tbl_line_cells.specs.KeptCells.{GoesOnBy}
use Rattle.tbl_line_cells.specs.declared.laid_cells.LaidCell.{LaidCell}
use Rattle.tbl_line_cells.specs.declared.laid_cells.RunsOn.{RunsOn}
use Rattle.tbl_line_cells.specs.declared.laid_cells.TextAt.{TextAt}

-- what a cell shows on its first line, and where: where it shows nothing it stands anywhere
abbrev pub runs_at : List Run → ℕ → Cell
runs_at [] at = nothing_there
runs_at (run ∷ runs) at = record { at = at; lines = (run ∷ runs) ∷ []; below = [] }

abbrev pub on_line : Cell → Cell
on_line c = runs_at (first_of c) c.at

-- a cell of the line, as one of a row
abbrev pub row_column : LaidCell → RowColumn
row_column c = record { column = c.column; key = c.key; entry = c.entry; place = c.place; end = 0 }

-- where a text begins, and over how many rows its cell has come
abbrev pub text_by : Bool → ℕ → ℕ → Option TextAt
text_by false at rows = None
text_by true at rows = Some (record { at = at; rows = rows })

abbrev pub text_of : Shown → Option TextAt
text_of s = text_by s.is_text s.at s.rows

-- a column without width: an entry stands at its first place
abbrev pub at_first : ℕ → ℕ → Column
at_first bars start = record { needs = record { alone = 0; strip = 0; left = 0; right = 0; split = 0 }; bars = bars; width = 0; start = start }

-- texts and blocks are what may run on
abbrev pub MayRun : EntryKind → Type 0
MayRun (Text glyphs width) = Unit {0}
MayRun (Split s) = Unit {0}
MayRun (Block b) = Unit {0}
MayRun kind = ⊥

-- what is kept of a cell in which something runs on from a column of the page: its last column, where it ends at the latest, whether it is
-- a number, and whether something of it was cut before; and what stands in it, as it is laid at its first place
pub record IsRunning (bytes : List ℕ) (c : LaidCell) (at : ℕ) (r : RunsOn) (own : Left) : Type 0 where
  pub kind : MayRun c.entry.kind
  pub start : c.column.start ≡ at
  pub first : c.column ≡ at_first c.column.bars c.column.start
  pub left : c.key ≡ LeftKey
  pub end : r.end ≡ own.key.end
  pub stop : r.stop ≡ own.stop
  pub number : r.is_number ≡ is_number own.key.key
  pub cut : r.is_cut ≡ own.is_cut
  pub field : content_of bytes c.entry ≡ own.field
  pub place : GoesOnBy c.entry.kind bytes c.entry c.place own.gone
  pub laid : IsLaid bytes own.key.key c.entry

abbrev pub RunsAs : List ℕ → LaidCell → Shown → Option RunsOn → Option Left → Type 0
RunsAs bytes c s None None = Unit {0}
RunsAs bytes c s None (Some own) = ⊥
RunsAs bytes c s (Some r) None = ⊥
RunsAs bytes c s (Some r) (Some own) = IsRunning bytes c s.at r own

-- it isn't a rule over its columns whose end depends on the next cell
abbrev pub EndsItself : EntryKind → Type 0
EndsItself (Ruled sign) = ⊥
EndsItself kind = Unit {0}

-- what is no text draws a byte so often, or nothing
abbrev pub DrawsByte : EntryKind → Entry → Type 0
DrawsByte (Text glyphs width) e = e.from ≡ e.to
DrawsByte (Split s) e = ⊥
DrawsByte (Block b) e = ⊥
DrawsByte kind e = Unit {0}

-- a cell that is laid draws this, and can be given
pub record IsDrawn (bytes : List ℕ) (c : LaidCell) (s : Shown) : Type 0 where
  pub shows : on_line (cell_left bytes 0 (row_column c)) ≡ on_line (shown_cell s)
  pub text : c.text ≡ text_of s
  pub lies : Lies bytes c.entry
  pub within : IsWithin (block_text bytes c.entry) c.place
  pub narrow : IsNarrow c.column
  pub ends : EndsItself c.entry.kind

-- and what it is before it is cut
pub record IsShown (bytes : List ℕ) (c : LaidCell) (s : Shown) : Type 0 where
  pub drawn : IsDrawn bytes c s
  pub byte : s.is_text ≡ false → DrawsByte c.entry.kind c.entry
  pub running : RunsAs bytes c s c.runs_on s.runs_on

pub record IsLaidCell (bytes : List ℕ) (c : LaidCell) : Type 0 where
  pub s : Shown
  pub is : IsShown bytes c s

-- what is drawn in its columns
abbrev pub repeated_entry : RuleSign → Entry
repeated_entry sign = record { from = 0; to = 0; kind = Repeated (sign_byte sign) }

abbrev pub drawn_in : Column → Entry → LaidCell
drawn_in c e = record { column = c; key = LeftKey; entry = e; place = AtEnd; text = None; runs_on = None }

-- whether a text stands behind another one, whose cell has come over more rows
abbrev pub is_text_behind : Option TextAt → Option TextAt → Bool
is_text_behind None other = false
is_text_behind (Some t) None = false
is_text_behind (Some t) (Some other) = t.at == other.at && nat_lt other.rows t.rows

-- in front of which of these cells it stands
abbrev pub place_among : Option TextAt → List LaidCell → ℕ
place_among t [] = 0
place_among t (c ∷ cells) = if is_text_behind t c.text then 0 else suc (place_among t cells)

-- a cell with as much of its text as this, as a number or not; and one of whose block a line is read within so many columns
abbrev pub with_text : Bool → List ℕ → LaidCell → LaidCell
with_text is_number text c = record c { entry = text_entry is_number c.entry.from text; place = AtEnd }

abbrev pub with_room : ℕ → LaidCell → LaidCell
with_room room c = record c { place = place_within (record { columns = room; is_first = true }) c.place }
