-- What is laid behind a column on a line of rules, or that nothing is.
use Rattle.std.proofs.Common.{◌≡◌, ℕ, suc, ◌+◌, ◌<◌, Bool, true, false, ◌&&◌, List, [], ◌∷◌, ◌++◌, drop, get_or, length, sym, ap, ◌∙◌, arith, append-nil, nat_lt, if◌then◌else◌}
use Rattle.tbl_layout.specs.declared.columns.Column.{Column}
use Rattle.tbl_lines.specs.CellsLeft.{Left}
use Rattle.tbl_lines.specs.LinesLeft.{Beside, Over, bars_met, front_between, is_within, over_at, overs}
use Rattle.tbl_lines.specs.PictureLines.{Cell, RuleLine, Sheet}
use Rattle.tbl_line_cells.specs.KeptCells.{AllLeft}
use Rattle.tbl_line_cells.specs.LinesDrawn.{keys_in}
use Rattle.tbl_line_cells.specs.RulesDrawn.{Cover, HasColumn, begin_from, front_list}
use Rattle.tbl_line_cells.specs.declared.cells.CellLeft.{CellLeft}
use Rattle.tbl_line_cells.proofs.CellsOver.{over-cell, within-is}
use Rattle.tbl_line_cells.proofs.ColumnsAt.{drop-last, drop-two}
use Rattle.tbl_line_cells.proofs.FrontsOf.{no_cell, no_column}

-- whether the next column is a further one of a cell that goes through
pub next-within : (bytes : List ℕ) (cells : List CellLeft) (lefts : List Left) (columns : List Column) (next at : ℕ) → AllLeft bytes cells lefts
    → Cover 0 (length columns) (keys_in cells) → HasColumn (keys_in cells) next (at + 1)
    → is_within (over_at (overs 0 lefts columns) (suc at))
    ≡ (nat_lt 0 (get_or cells next no_cell).rows && nat_lt (begin_from 0 next (keys_in cells)) (at + 1))
next-within bytes cells lefts columns next at all cover has =
    let one : at + 1 ≡ suc at = omega arith in
    let met = over-cell bytes cells lefts columns next (at + 1) no_cell all cover has in
    ap (λ (n : ℕ). is_within (over_at (overs 0 lefts columns) n)) (sym one)
    ∙ ap (λ (o : Over). is_within o) met.over
    ∙ within-is (begin_from 0 next (keys_in cells)) (at + 1) met.own _
    ∙ ap (λ (n : ℕ). nat_lt 0 n && nat_lt (begin_from 0 next (keys_in cells)) (at + 1)) (sym met.left.rows)

module _ (s : Sheet) (line : RuleLine) (all : List Over) (above below : Beside) (at : ℕ) where
  abbrev count : ℕ
  count = bars_met s.bars (length s.columns) line all above below (suc at)

  list-by : (is : Bool) (front : Cell) (is_on : Bool) → is ≡ is_on → (if is then [] else front ∷ []) ≡ (if is_on then [] else front ∷ [])
  list-by is front is_on same = ap (λ (b : Bool). if b then [] else front ∷ []) same

  -- the columns that stand there, in a table
  pub list-some : at + 1 < length s.columns → is_within (over_at all (suc at)) ≡ false
      → front_list s line all above below at (drop at s.columns)
      ≡ front_between line at (over_at all at) (over_at all (suc at)) count (get_or s.columns at no_column) (get_or s.columns (suc at) no_column) ∷ []
  list-some within off =
      ap (λ (cs : List Column). front_list s line all above below at cs) (drop-two s.columns at no_column no_column (omega (arith, within)))
      ∙ list-by (is_within (over_at all (suc at))) _ false off

  pub list-none : at + 1 < length s.columns → is_within (over_at all (suc at)) ≡ true → front_list s line all above below at (drop at s.columns) ≡ []
  list-none within on =
      ap (λ (cs : List Column). front_list s line all above below at cs) (drop-two s.columns at no_column no_column (omega (arith, within)))
      ∙ list-by (is_within (over_at all (suc at))) _ true on

  pub list-last : at + 1 ≡ length s.columns → front_list s line all above below at (drop at s.columns) ≡ []
  list-last last =
      ap (λ (cs : List Column). front_list s line all above below at cs) (drop-last s.columns at no_column (omega (arith, last)))

pub nothing-more : (fronts list : List Cell) → list ≡ [] → fronts ≡ fronts ++ list
nothing-more fronts list none = sym (append-nil fronts) ∙ ap (λ (cs : List Cell). fronts ++ cs) (sym none)
