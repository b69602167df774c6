-- Where the pieces of a line stand: each at its own columns of the page (Lesk, "Tbl": Formatting).
use Rattle.std.specs.Prelude.{◌≡◌, ℕ, suc, ◌+◌, ◌-◌, ◌<◌, ◌≤◌, false, true, List, [], ◌∷◌, ◌++◌, drop, length, map, if◌then◌else◌, ⊤}
use Rattle.tbl_format.specs.Cells.{AreCells}
use Rattle.tbl_format.specs.Format.{columns_of_keys}
use Rattle.tbl_layout.specs.Entries.{Run, columns_of}
use Rattle.tbl_layout.specs.EntriesFit.{FieldFits}
use Rattle.tbl_layout.specs.LayoutLaws.{first_start, last_behind, last_end}
use Rattle.tbl_layout.specs.Spans.{cells_of}
use Rattle.tbl_layout.specs.Widths.{edge_bars, inner_bars}
use Rattle.tbl_layout.specs.declared.columns.Column.{Column}
use Rattle.tbl_options.specs.declared.options.Boxing.{Boxing}
use Rattle.tbl_lines.specs.CellsLeft.{Left, behind_line}
use Rattle.tbl_lines.specs.LinesLeft.{Beside, Free, Over, Shown, Through, bars_met, first_bars, in_order, is_within, over_at, overs, row_fronts, row_shown, shown_cell}
use Rattle.tbl_lines.specs.PictureLeft.{through_rule}
use Rattle.tbl_lines.specs.PictureLines.{Cell, RuleLine, Sheet, end_of, line_of, with_fronts, written}
use Rattle.tbl_lines.specs.RowsLeft.{first_of}
use Rattle.tbl_lines.specs.RulePlaces.{AreMet, bars_behind}

-- a text begins at a place or behind it
abbrev pub BeginsBehind : ℕ → ℕ → List Run → Type 0
BeginsBehind place at [] = ⊤
BeginsBehind place at (run ∷ runs) = place ≤ at

-- the pieces of a line from a place on stand apart: each begins where those in front of it have ended, or behind that, so none has a column
-- of another; and the last one ends within so many columns
abbrev pub StandApart : ℕ → ℕ → List Cell → Type 0
StandApart width place [] = place ≤ width
StandApart width place (c ∷ cells) = BeginsBehind place c.at (first_of c) × StandApart width (end_of c.at place (first_of c)) cells

-- each of them begins at its column: up to its end the line is as wide as the columns of the page up to there
pub record BeginAtColumns (cells : List Cell) : Type 0 where
  pub each : (front behind : List Cell) (c : Cell) → cells ≡ front ++ c ∷ behind → 0 < length (first_of c)
      → columns_of (written 0 0 (front ++ c ∷ [])) ≡ c.at + columns_of (first_of c)

-- a line of what stands in front of cells and of what these show, in order: its pieces stand apart in a picture that is so wide
abbrev pub pieces_of : List Cell → List Shown → List Cell
pieces_of fronts cells = with_fronts fronts (map shown_cell (in_order [] cells))

pub record IsApart (width : ℕ) (line : List ℕ) (fronts : List Cell) (cells : List Shown) : Type 0 where
  pub is : line ≡ line_of 0 (pieces_of fronts cells)
  pub apart : StandApart width 0 (pieces_of fronts cells)

-- what cells show stands in the order of their columns: no text has come over more rows than one in front of it that begins at the same
-- column of the page
abbrev pub InTurn : List Shown → Type 0
InTurn cells = in_order [] cells ≡ cells

-- a cell fits its columns, which are one
abbrev pub Fits : Left → Column → Type 0
Fits own c = FieldFits c own.key.key own.field

-- the cells of a row fit their columns, and stand in order in a picture that is so wide: each next one behind the one in front of it and as
-- many places as it has bars in front of it, and the last one in front of those of the right edge
abbrev pub CellsStand : Boxing → ℕ → ℕ → List Left → List Column → Type 0
CellsStand boxing last width [] columns = ⊤
CellsStand boxing last width (own ∷ cells) [] = ⊤
CellsStand boxing last width (own ∷ []) (c ∷ columns) = Fits own c × (c.start + c.width + edge_bars boxing last ≤ width)
CellsStand boxing last width (own ∷ next ∷ cells) (c ∷ []) = Fits own c × (c.start + c.width + edge_bars boxing last ≤ width)
CellsStand boxing last width (own ∷ next ∷ cells) (c ∷ d ∷ columns) =
    Fits own c × (c.start + c.width + inner_bars boxing next.key.bars ≤ d.start) × CellsStand boxing last width (next ∷ cells) (d ∷ columns)

-- the columns of the cells of a row, those of each as one
abbrev pub columns_of_cells : Sheet → List Left → List Column
columns_of_cells s cells = cells_of (map (λ c. c.key) cells) s.columns

-- the cells of a row stand so behind the bars of the left edge
pub record RowStands (s : Sheet) (last : ℕ) (cells : List Left) : Type 0 where
  pub some : 0 < length cells
  pub left : edge_bars s.bars.boxing (first_bars cells) ≤ first_start 0 (columns_of_cells s cells)
  pub order : CellsStand s.bars.boxing last s.width cells (columns_of_cells s cells)

-- what stands on a line of a row: in front of its cells, and in them
abbrev pub fronts_of_row : Sheet → ℕ → List Left → List Cell
fronts_of_row s last cells = row_fronts s last cells (columns_of_cells s cells)

abbrev pub shown_in_row : Sheet → List Left → List Shown
shown_in_row s cells = row_shown s.bars.boxing cells (columns_of_cells s cells)

-- where what a line of rules meets over a column ends: with the column, or with the columns of a cell
abbrev pub over_end : Over → Column → ℕ
over_end Free c = c.start + c.width
over_end (Through is_first own one) c = one.start + one.width

-- a cell that goes through it there fits its columns, and begins with its first one
abbrev pub OverFits : Over → Column → Type 0
OverFits Free c = ⊤
OverFits (Through is_first own one) c = Fits own one × (is_first ≡ true → c.start ≤ one.start)

-- along the columns from one on, cells that go through it stand in order: each ends with its last column
abbrev pub OversStand : List Over → ℕ → List Column → Type 0
OversStand all column [] = ⊤
OversStand all column (c ∷ []) = OverFits (over_at all column) c × (over_end (over_at all column) c ≤ c.start + c.width)
OversStand all column (c ∷ d ∷ columns) =
    OverFits (over_at all column) c
    × (over_end (over_at all column) c ≤ (if is_within (over_at all (suc column)) then over_end (over_at all (suc column)) d else c.start + c.width))
    × OversStand all (suc column) (d ∷ columns)

-- a line of rules, between those above and below, has places for the bars that meet on it, at the edges too; and cells that go through it
-- stand in order
pub record RuleStands (s : Sheet) (line : RuleLine) (cells : List Left) (above below : Beside) : Type 0 where
  pub some : 0 < length s.columns
  pub left : bars_met s.bars (length s.columns) line (overs 0 cells s.columns) above below 0 ≤ first_start 0 s.columns
  pub between : AreMet (λ column. bars_met s.bars (length s.columns) line (overs 0 cells s.columns) above below (suc column)) s.width 0 s.columns
  pub right : last_end 0 s.columns + bars_met s.bars (length s.columns) line (overs 0 cells s.columns) above below (length s.columns) ≤ s.width
  pub first : is_within (over_at (overs 0 cells s.columns) 0) ≡ false
  pub order : OversStand (overs 0 cells s.columns) 0 s.columns

-- between each of some columns and the next one there is a column of the page at least
abbrev pub AreSpaced : List Column → Type 0
AreSpaced [] = ⊤
AreSpaced (c ∷ []) = ⊤
AreSpaced (c ∷ d ∷ columns) = (c.start + c.width < d.start) × AreSpaced (d ∷ columns)

-- the cells of a row fit their columns, those of each as one
abbrev pub CellsFit : List Left → List Column → Type 0
CellsFit [] columns = ⊤
CellsFit (own ∷ cells) [] = ⊤
CellsFit (own ∷ cells) (c ∷ columns) = Fits own c × CellsFit cells columns

-- in front of each cell but the first stand no more bars than have places behind the column in front of it: the first cell begins with the
-- first of these columns, behind so many others
abbrev pub BarsPlaced : ℕ → List Left → List Column → Type 0
BarsPlaced from [] columns = ⊤
BarsPlaced from (own ∷ cells) columns =
    (first_bars cells ≤ bars_behind columns (own.key.end - from - 1)) × BarsPlaced own.key.end cells (drop (own.key.end - from) columns)

-- the cells of a row have all columns of the table, and fit them
pub record CellsCover (s : Sheet) (cells : List Left) : Type 0 where
  pub order : AreCells 0 (map (λ c. c.key) cells)
  pub all : columns_of_keys (map (λ c. c.key) cells) ≡ length s.columns
  pub fit : CellsFit cells (columns_of_cells s cells)

-- and there are places for the bars in front of each of them, and behind the last
pub record BarsFitRow (s : Sheet) (last : ℕ) (cells : List Left) : Type 0 where
  pub left : first_bars cells ≤ s.bars.front
  pub between : BarsPlaced 0 cells s.columns
  pub right : last ≤ last_behind s.columns

-- there are places for the bars that meet on a line of rules
pub record BarsFitRule (s : Sheet) (line : RuleLine) (cells : List Left) (above below : Beside) : Type 0 where
  pub left : bars_met s.bars (length s.columns) line (overs 0 cells s.columns) above below 0 ≤ edge_bars s.bars.boxing s.bars.front
  pub between : AreMet (λ column. bars_met s.bars (length s.columns) line (overs 0 cells s.columns) above below (suc column)) s.width 0 s.columns
  pub right : bars_met s.bars (length s.columns) line (overs 0 cells s.columns) above below (length s.columns)
      ≤ edge_bars s.bars.boxing (last_behind s.columns)

-- behind a line of their row, and behind a line of rules in front of it, these cells cover the columns and fit them as before, and there are
-- places for the same bars
pub record Stay (s : Sheet) (last : ℕ) (cells : List Left) : Type 0 where
  pub cover : CellsCover s (map behind_line cells)
  pub bars : BarsFitRow s last (map behind_line cells)
  pub cover_through : CellsCover s (map through_rule cells)
  pub bars_through : BarsFitRow s last (map through_rule cells)
