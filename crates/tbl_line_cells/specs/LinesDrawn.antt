-- A line that is laid as cells in columns of their own, with what stands in front of them (Lesk, "Tbl": Formatting).
use Rattle.std.specs.Prelude.{◌≡◌, ◌≢◌, ℕ, suc, ◌+◌, ◌-◌, ◌<◌, ◌≤◌, ◌==◌, Bool, true, false, nat_lt, get_or, is_some, List, [], ◌∷◌, length, map, vec_capacity, Option, None, Some, if◌then◌else◌}
use Rattle.std.specs.List.{AllByRecursion, list_any}
use Rattle.tbl_format.specs.declared.format.FormatKey.{FormatKey}
use Rattle.tbl_format.specs.declared.format.Standing.TheVariants.{Middle}
use Rattle.tbl_layout.specs.Entries.{columns_of}
use Rattle.tbl_layout.specs.KeptEntries.{Lies, all_entries}
use Rattle.tbl_layout.specs.declared.bars.Bars.{Bars}
use Rattle.tbl_layout.specs.declared.columns.Column.{Column}
use Rattle.tbl_layout.specs.declared.data_lines.RuleSign.{RuleSign}
use Rattle.tbl_layout.specs.declared.entry.Entry.{Entry}
use Rattle.tbl_lines.specs.CellsLeft.{Left}
use Rattle.tbl_lines.specs.CutEntries.{first_cut}
use Rattle.tbl_layout.specs.Spans.{cells_of}
use Rattle.tbl_lines.specs.LinesLeft.{Shown, cut_to, row_fronts, row_shown}
use Rattle.tbl_lines.specs.PictureLines.{Cell, Sheet, line_of}
use Rattle.tbl_lines.specs.RowsLeft.{cell_of_front}
use Rattle.tbl_lines.specs.RowsLent.{AreFronts, WalkedRow, line_cells}
use Rattle.tbl_lines.specs.RowsWalked.{AreNarrow, HasBars, PlacesLie}
use Rattle.tbl_lines.specs.declared.fronts.Front.{Front}
use Rattle.tbl_text.specs.declared.block_parts.BlockPlace.{BlockPlace}
use Rattle.tbl_line_cells.specs.LaidCells.{IsDrawn, IsShown, on_line}
use Rattle.tbl_line_cells.specs.declared.cells.CellLeft.{CellLeft}
use Rattle.tbl_line_cells.specs.declared.laid_cells.LaidCell.{LaidCell}
use Rattle.tbl_line_cells.specs.declared.line_cells.LineCells.{LineCells}

-- how a line of rules is drawn over each column; the cells of a line; whether something in one of them runs on; behind which columns
-- cells end of which something is cut, if any does, and in how many of them nothing was before; what stands in front of each, and behind the
-- last; and the line as a row: for each cell its columns as one, its key, what stands in it, and where a block goes on
pub record KeptLine : Type 0 where
  pub signs : List (Option RuleSign)
  pub cells : List LaidCell
  pub has_running : Bool
  pub cut : List Bool
  pub first_cut : ℕ
  pub fronts : List Front
  pub columns : List Column
  pub keys : List FormatKey
  pub entries : List Entry
  pub places : List BlockPlace

abbrev pub kept_line : LineCells → KeptLine
kept_line c = record {
  signs = c.signs.items;
  cells = c.cells.items;
  has_running = c.has_running;
  cut = c.cut.items;
  first_cut = c.first_cut;
  fronts = c.fronts.items;
  columns = c.columns.items;
  keys = c.keys.items;
  entries = c.entries.items;
  places = c.places.items;
}

-- there is room for so many columns
pub record LineHasRoom (room : ℕ) (c : LineCells) : Type 0 where
  pub signs : room ≤ vec_capacity c.signs
  pub cells : room ≤ vec_capacity c.cells
  pub cut : room ≤ vec_capacity c.cut
  pub fronts : suc room ≤ vec_capacity c.fronts
  pub columns : room ≤ vec_capacity c.columns
  pub keys : room ≤ vec_capacity c.keys
  pub entries : room ≤ vec_capacity c.entries
  pub places : room ≤ vec_capacity c.places

-- nothing of the row is there
pub record IsNoRow (line : KeptLine) : Type 0 where
  pub columns : line.columns ≡ []
  pub keys : line.keys ≡ []
  pub entries : line.entries ≡ []
  pub places : line.places ≡ []

-- all cells of a line show these; and draw them
abbrev pub AreShown : List ℕ → List LaidCell → List Shown → Type 0
AreShown bytes [] [] = Unit {0}
AreShown bytes [] (s ∷ others) = ⊥
AreShown bytes (c ∷ cells) [] = ⊥
AreShown bytes (c ∷ cells) (s ∷ others) = IsShown bytes c s × AreShown bytes cells others

abbrev pub AreDrawn : List ℕ → List LaidCell → List Shown → Type 0
AreDrawn bytes [] [] = Unit {0}
AreDrawn bytes [] (s ∷ others) = ⊥
AreDrawn bytes (c ∷ cells) [] = ⊥
AreDrawn bytes (c ∷ cells) (s ∷ others) = IsDrawn bytes c s × AreDrawn bytes cells others

-- what stands in front of the cells of the line
pub record InFront (line : KeptLine) (fronts : List Cell) : Type 0 where
  pub in_front : map (λ (f : Front). on_line (cell_of_front f)) line.fronts ≡ map on_line fronts
  pub some : AllByRecursion HasBars line.fronts

-- the line under way: what its cells show, from the left, and what stands in front of them
pub record SoFar (bytes : List ℕ) (line : KeptLine) (done : List Shown) (fronts : List Cell) : Type 0 where
  pub cells : AreShown bytes line.cells done
  pub running : line.has_running ≡ list_any (λ (s : Shown). is_some s.runs_on) done
  pub front : InFront line fronts

pub record LineIsLaid (bytes : List ℕ) (line : KeptLine) : Type 0 where
  pub done : List Shown
  pub fronts : List Cell
  pub so_far : SoFar bytes line done fronts

-- and behind that: what runs on is cut
pub record CutSoFar (bytes : List ℕ) (line : KeptLine) (done : List Shown) (fronts : List Cell) : Type 0 where
  pub cells : AreDrawn bytes line.cells done
  pub front : InFront line fronts

-- what a cell shows in so many columns: of what runs on as much as fits, and all of what doesn't
abbrev pub shown_in : ℕ → Option Left → Shown → Shown
shown_in room None s = s
shown_in room (Some own) s = cut_to room own s

abbrev pub passes_room : ℕ → Option Left → Shown → Bool
passes_room room None s = false
passes_room room (Some own) s = nat_lt room (columns_of s.runs)

-- cells that run on end one behind the other, behind so many columns and within the table's
abbrev pub EndsBehind : ℕ → ℕ → Option Left → Type 0
EndsBehind columns from None = Unit {0}
EndsBehind columns from (Some own) = (from < own.key.end) × (own.key.end ≤ columns)

abbrev pub end_behind : ℕ → Option Left → ℕ
end_behind from None = from
end_behind from (Some own) = own.key.end

abbrev pub RunInOrder : ℕ → ℕ → List Shown → Type 0
RunInOrder columns from [] = Unit {0}
RunInOrder columns from (s ∷ done) = EndsBehind columns from s.runs_on × RunInOrder columns (end_behind from s.runs_on) done

-- something is cut of a cell that ends so, of which something was cut before or not
pub record IsNoted (end : ℕ) (is_cut : Bool) (old new : KeptLine) : Type 0 where
  pub here : 0 < end → end ≤ length old.cut → get_or new.cut (end - 1) false ≡ true
  pub others : (other : ℕ) → 0 < other → other ≢ end → get_or new.cut (other - 1) false ≡ get_or old.cut (other - 1) false
  pub count : length new.cut ≡ length old.cut
  pub first : new.first_cut ≡ (if is_cut then 0 else 1) + old.first_cut

-- or nothing is, of a cell that doesn't run on or fits
abbrev pub CutMore : Bool → Option Left → KeptLine → KeptLine → Type 0
CutMore false x old new = (new.cut ≡ old.cut) × (new.first_cut ≡ old.first_cut)
CutMore true None old new = (new.cut ≡ old.cut) × (new.first_cut ≡ old.first_cut)
CutMore true (Some own) old new = IsNoted own.key.end own.is_cut old new

-- of these cells something is cut on the line, of a table of so many columns
pub record CutOn (columns : ℕ) (line : KeptLine) (cut : List Left) : Type 0 where
  pub ends : (end : ℕ) → 0 < end → end ≤ columns
      → get_or line.cut (end - 1) false ≡ list_any (λ (own : Left). own.key.end == end) cut
  pub first : line.first_cut ≡ first_cut columns cut

-- the line as a row: each cell has one column
abbrev pub laid_keys : ℕ → List LaidCell → List FormatKey
laid_keys from [] = []
laid_keys from (c ∷ cells) =
    record { bars = 0; key = c.key; end = suc from; standing = Middle; has_no_width = false } ∷ laid_keys (suc from) cells

abbrev pub as_row : KeptLine → KeptLine
as_row line = record line {
  columns = map (λ (c : LaidCell). c.column) line.cells;
  keys = laid_keys 0 line.cells;
  entries = map (λ (c : LaidCell). c.entry) line.cells;
  places = map (λ (c : LaidCell). c.place) line.cells;
}

-- each cell has one column, without bars
abbrev pub AreSingle : ℕ → List FormatKey → Type 0
AreSingle from [] = Unit {0}
AreSingle from (k ∷ keys) = (k.end ≡ suc from) × (k.bars ≡ 0) × AreSingle (suc from) keys

-- the line as a row of one line, in a picture with these bars that is so wide
abbrev pub laid_row : List ℕ → Bars → ℕ → KeptLine → WalkedRow
laid_row bytes bars width line = record {
  bars = bars;
  width = width;
  bytes = bytes;
  format = record { keys = line.keys; bars = 0 };
  columns = line.columns;
  height = 1;
  entries = line.entries;
  fronts = Some (map cell_of_front line.fronts);
}

-- a picture without bars has nothing in front of cells
abbrev pub if_any : Bars → List Cell → List Cell
if_any bars fronts = if bars.has_any then fronts else []

-- the line can be given, and is this one
pub record Draws (bytes : List ℕ) (bars : Bars) (width : ℕ) (line : KeptLine) (given : List ℕ) : Type 0 where
  pub keys : AreSingle 0 line.keys
  pub filled : all_entries (record { keys = line.keys; bars = 0 }) line.entries ≡ line.entries
  pub as_many_keys : length line.keys ≡ length line.columns
  pub as_many_entries : length line.entries ≡ length line.columns
  pub lie : AllByRecursion (Lies bytes) line.entries
  pub places : PlacesLie bytes line.entries line.places
  pub narrow : AreNarrow line.columns
  pub few : length line.columns < 4294967296
  pub fronts : AreFronts line.columns line.fronts
  pub text : line_of 0 (line_cells (laid_row bytes bars width line) 0 line.places) ≡ given

-- the keys of some cells
abbrev pub keys_in : List CellLeft → List FormatKey
keys_in cells = map (λ (c : CellLeft). c.key) cells

-- all but the cells and what stands in front of them stays, and there is as much room
pub record KeepsRow (old new : LineCells) : Type 0 where
  pub signs : new.signs ≡ old.signs
  pub cells : vec_capacity new.cells ≡ vec_capacity old.cells
  pub cut : new.cut ≡ old.cut
  pub first_cut : new.first_cut ≡ old.first_cut
  pub fronts : vec_capacity new.fronts ≡ vec_capacity old.fronts
  pub columns : new.columns ≡ old.columns
  pub keys : new.keys ≡ old.keys
  pub entries : new.entries ≡ old.entries
  pub places : new.places ≡ old.places

-- the cells of a line of a row are laid: what they show, in order, and what stands in front of them make that line
pub record RowIsLaid (bytes : List ℕ) (s : Sheet) (line : KeptLine) (last : ℕ) (lefts : List Left) : Type 0 where
  pub done : List Shown
  pub fronts : List Cell
  pub so_far : SoFar bytes line done fronts
  pub shown : done ≡ row_shown s.bars.boxing lefts (cells_of (map (λ (c : Left). c.key) lefts) s.columns)
  pub order : RunInOrder (length s.columns) 0 done
  pub fronts_of : if_any s.bars fronts ≡ row_fronts s last lefts (cells_of (map (λ (c : Left). c.key) lefts) s.columns)
