-- A line of rules, through which cells of the row below it may go, as it is laid column by column (Lesk, "Tbl": Formatting).
use Rattle.std.specs.Prelude.{◌≡◌, ℕ, zero, suc, ◌+◌, ◌≤◌, ◌<◌, max, Bool, true, false, List, [], ◌∷◌, ◌++◌, drop, get_or, length, Option, None, if◌then◌else◌}
use Rattle.tbl_format.specs.declared.format.FormatKey.{FormatKey}
use Rattle.tbl_layout.specs.Columns.{bars_end}
use Rattle.tbl_layout.specs.declared.bars.Bars.{Bars}
use Rattle.tbl_layout.specs.declared.columns.Column.{Column}
use Rattle.tbl_layout.specs.declared.data_lines.RuleSign.{RuleSign}
use Rattle.tbl_layout.specs.declared.data_lines.RuleSign.TheVariants.{Single}
use Rattle.tbl_lines.specs.CellsLeft.{Left, goes_on}
use Rattle.tbl_lines.specs.LinesLeft.{Beside, Free, Over, Shown, Through, all_cut, all_shown, bars_met, cut_cells, front_between, fronts_between, is_within, over_at, overs, rule_fronts, rule_shown, ruled_over, sign_at}
use Rattle.tbl_lines.specs.PictureLines.{Cell, OfKeys, RuleLine, Sheet, Whole, bar, line_of, nothing_there, one_run, repeated, with_fronts}
use Rattle.tbl_lines.specs.RowsLeft.{cell_of_front}
use Rattle.tbl_lines.specs.RowsWalked.{HasBars}
use Rattle.tbl_lines.specs.declared.fronts.Front.{Front}
use Rattle.tbl_line_cells.specs.KeptCells.{AllLeft}
use Rattle.tbl_line_cells.specs.LaidCells.{on_line}
use Rattle.tbl_line_cells.specs.LinesDrawn.{KeptLine, RunInOrder, SoFar}
use Rattle.tbl_line_cells.specs.declared.cells.CellLeft.{CellLeft}

-- cells have all columns of a table from one on
abbrev pub Cover : ℕ → ℕ → List FormatKey → Type 0
Cover from count [] = from ≡ count
Cover from count (k ∷ keys) = (from < k.end) × Cover k.end count keys

-- behind how many columns one of them begins; and it has this column
abbrev pub begin_from : ℕ → ℕ → List FormatKey → ℕ
begin_from from zero keys = from
begin_from from (suc cell) [] = from
begin_from from (suc cell) (k ∷ keys) = begin_from k.end cell keys

pub record HasColumn (keys : List FormatKey) (cell at : ℕ) : Type 0 where
  pub is_cell : cell < length keys
  pub from : begin_from 0 cell keys ≤ at
  pub to : at < begin_from 0 (suc cell) keys

-- what a line of rules meets over a column of a cell, which is its first or not
abbrev pub over_of : Bool → Left → Column → Over
over_of is_first own column = if goes_on own then Through is_first own column else Free

-- where the rule over a column begins: over the first one at a place, and else behind the places of bars
abbrev pub begin_behind : List Column → ℕ
begin_behind [] = 0
begin_behind (c ∷ []) = 0
begin_behind (c ∷ d ∷ columns) = bars_end c d

abbrev pub begin_at : ℕ → ℕ → List Column → ℕ
begin_at from zero columns = from
begin_at from (suc column) columns = begin_behind (drop column columns)

-- and where that over the first of some ends: over the last one at a place
abbrev pub end_at : ℕ → List Column → ℕ
end_at to [] = to
end_at to (c ∷ []) = to
end_at to (c ∷ d ∷ columns) = c.start + c.width

-- what stands between the first two of some columns, the first of which is one of the table's: nothing within a cell
abbrev pub front_list : Sheet → RuleLine → List Over → Beside → Beside → ℕ → List Column → List Cell
front_list s line all above below at [] = []
front_list s line all above below at (c ∷ []) = []
front_list s line all above below at (c ∷ d ∷ columns) =
    let next = over_at all (suc at) in
    if is_within next then []
    else front_between line at (over_at all at) next (bars_met s.bars (length s.columns) line all above below (suc at)) c d ∷ []

-- none or one: whether a column is a further one of a cell
abbrev pub within_count : Over → ℕ
within_count Free = 0
within_count (Through is_first own column) = if is_first then 0 else 1

abbrev pub is_whole_line : RuleLine → Bool
is_whole_line (Whole sign) = true
is_whole_line (OfKeys format) = false

-- so many bars have places between two columns
pub record FitBetween (count : ℕ) (c d : Column) : Type 0 where
  pub few : count ≤ max 1 c.bars
  pub behind : c.start + c.width + count ≤ d.start

-- a line of rules in a picture with these bars, in front of a row whose cells are left so: how it is drawn over each column, and how many
-- bars meet or stand at each boundary
pub record RuleGiven (bytes : List ℕ) (cells : List CellLeft) (signs : List (Option RuleSign)) (counts : List ℕ) (columns : List Column)
    (lefts : List Left) (bars : Bars) (line : RuleLine) (above below : Beside) : Type 0 where
  pub left : AllLeft bytes cells lefts
  pub drawn : (column : ℕ) → column < length columns → get_or signs column None ≡ sign_at line (over_at (overs 0 lefts columns) column) column
  pub met : (boundary : ℕ) → boundary ≤ length columns
      → get_or counts boundary 0 ≡ bars_met bars (length columns) line (overs 0 lefts columns) above below boundary
  pub fit : (at : ℕ) (c d : Column) (others : List Column) → drop at columns ≡ c ∷ d ∷ others
      → FitBetween (bars_met bars (length columns) line (overs 0 lefts columns) above below (suc at)) c d

pub record RuleIsGiven (bytes : List ℕ) (cells : List CellLeft) (signs : List (Option RuleSign)) (counts : List ℕ) (columns : List Column)
    (is_whole : Bool) : Type 0 where
  pub lefts : List Left
  pub bars : Bars
  pub line : RuleLine
  pub above : Beside
  pub below : Beside
  pub whole : is_whole ≡ is_whole_line line
  pub given : RuleGiven bytes cells signs counts columns lefts bars line above below

-- it is laid up to a column: the edge, what it shows and what stands in front of that, and what is left of the line is still to be laid
pub record LaidTo (bytes : List ℕ) (now : KeptLine) (s : Sheet) (lefts : List Left) (line : RuleLine) (above below : Beside) (edge : Cell)
    (from to at : ℕ) : Type 0 where
  pub done : List Shown
  pub fronts : List Cell
  pub so_far : SoFar bytes now done (edge ∷ fronts)
  pub shown : done ++ all_shown line (overs 0 lefts s.columns) at (begin_at from at s.columns) to (drop at s.columns)
      ≡ all_shown line (overs 0 lefts s.columns) 0 from to s.columns
  pub between : fronts ++ fronts_between s line (overs 0 lefts s.columns) above below at (drop at s.columns)
      ≡ fronts_between s line (overs 0 lefts s.columns) above below 0 s.columns

-- what stands in front of a cell draws this
pub record StandsAs (front : Front) (cell : Cell) : Type 0 where
  pub shows : on_line (cell_of_front front) ≡ on_line cell
  pub some : HasBars front

-- an edge as it is laid: a rule of no column stands at both sides of bars that are crossed
abbrev pub edge_drawn : Bool → ℕ → ℕ → Cell
edge_drawn is_ruled at zero = nothing_there
edge_drawn false at (suc n) = one_run at (repeated bar (suc n))
edge_drawn true at (suc n) = ruled_over Single at at (suc n) (at + suc n)

-- all of a line of rules is laid: what it shows, in order, and what stands in front of that, drawn as the line has it, and cutting as much
pub record RuleIsLaid (bytes : List ℕ) (s : Sheet) (now : KeptLine) (line : RuleLine) (lefts : List Left) (above below : Beside) : Type 0 where
  pub done : List Shown
  pub fronts : List Cell
  pub so_far : SoFar bytes now done fronts
  pub shown : done ≡ rule_shown s line lefts above below
  pub drawn : (cells : List Cell) → line_of 0 (with_fronts fronts cells) ≡ line_of 0 (with_fronts (rule_fronts s line lefts above below) cells)
  pub cut : all_cut s fronts done ≡ all_cut s (rule_fronts s line lefts above below) done
  pub cut_of : cut_cells s fronts done ≡ cut_cells s (rule_fronts s line lefts above below) done
  pub order : RunInOrder (length s.columns) 0 done
  pub some : 0 < length now.cells
  pub many : length now.fronts ≡ suc (length now.cells)
