-- The places of bars in a picture: no row of the formats has more bars behind a column than there are places for them.
use Rattle.std.specs.Prelude.{◌≡◌, ℕ, suc, ◌+◌, ◌≤◌, max, List, [], ◌∷◌, length, map, get_or, Some}
use Rattle.std.specs.List.{AllByRecursion}
use Rattle.tbl_format.specs.Cells.{cell_behind}
use Rattle.tbl_format.specs.Format.{FormatRow}
use Rattle.tbl_layout.specs.LayoutLaws.{StandInOrder}
use Rattle.tbl_layout.specs.declared.columns.Column.{Column}
use Rattle.tbl_lines.specs.PictureLines.{Neighbour, NoRow, OfKeys, OfRow, OfRules, RuleLine, Sheet, Whole, bars_of}

-- the most bars that any row has behind a column
abbrev pub bars_behind : List Column → ℕ → ℕ
bars_behind columns column = get_or (map (λ (c : Column). c.bars) columns) column 0

-- a row of the formats has no more bars at the left edge than any may have, and no more in front of any other of its cells than the
-- column in front of that; nor has it more behind its last column, where each of its cells has one
pub record HasPlaces (front : ℕ) (columns : List Column) (format : FormatRow) : Type 0 where
  pub left : bars_of format 0 ≤ front
  pub behind : (column cell : ℕ) → cell_behind format.keys (suc column) ≡ Some cell → bars_of format cell ≤ bars_behind columns column
  pub right : (column : ℕ) → length columns ≡ suc column → bars_of format (suc column) ≤ bars_behind columns column

-- the columns of a picture stand in order, with places for the bars of all rows of the formats
pub record HavePlaces (formats : List FormatRow) (s : Sheet) : Type 0 where
  pub order : StandInOrder s.bars s.width s.columns
  pub rows : AllByRecursion (HasPlaces s.bars.front s.columns) formats

-- the rows have places that stand beside a line of rules, and so has the line
abbrev pub IsPlaced : ℕ → List Column → Neighbour → Type 0
IsPlaced front columns NoRow = Unit {0}
IsPlaced front columns (OfRow is_first format fields) = HasPlaces front columns format
IsPlaced front columns (OfRules format behind) = HasPlaces front columns format × IsPlaced front columns behind

abbrev pub IsLinePlaced : ℕ → List Column → RuleLine → Type 0
IsLinePlaced front columns (Whole sign) = Unit {0}
IsLinePlaced front columns (OfKeys format) = HasPlaces front columns format

-- along a line of rules from a column on, each column begins behind the one before it and as many places as bars meet there, for which
-- there are places; and the last one begins where the line still goes on
abbrev pub AreMet : (ℕ → ℕ) → ℕ → ℕ → List Column → Type 0
AreMet met to column [] = Unit {0}
AreMet met to column (c ∷ []) = c.start ≤ to
AreMet met to column (c ∷ d ∷ columns) =
    (c.start + c.width + met column ≤ d.start) × (met column ≤ max 1 c.bars) × AreMet met to (suc column) (d ∷ columns)
