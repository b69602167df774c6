-- The edges of a line of rules in front of a row: whether the line rules them.
use Rattle.std.proofs.Common.{◌≡◌, ℕ, ◌-◌, ◌<◌, Bool, not, ◌&&◌, List, get_or, length, ◌∙◌, arith, nat_lt}
use Rattle.std.proofs.lemmas.List.{length-map}
use Rattle.tbl_layout.specs.declared.columns.Column.{Column}
use Rattle.tbl_lines.specs.CellsLeft.{Left}
use Rattle.tbl_lines.specs.LinesLeft.{over_at, overs, rules_edge}
use Rattle.tbl_lines.specs.PictureLines.{RuleLine}
use Rattle.tbl_line_cells.specs.KeptCells.{AllLeft}
use Rattle.tbl_line_cells.specs.LinesDrawn.{keys_in}
use Rattle.tbl_line_cells.specs.RulesDrawn.{Cover, HasColumn, is_whole_line, within_count}
use Rattle.tbl_line_cells.specs.declared.cells.CellLeft.{CellLeft}
use Rattle.tbl_line_cells.proofs.CellsOver.{first-column, keys-some, last-column, over-cell}
use Rattle.tbl_line_cells.proofs.FrontsOf.{no_cell}
use Rattle.tbl_line_cells.proofs.RuleTexts.{edge-at, first-met}

module _ (bytes : List ℕ) (cells : List CellLeft) (columns : List Column) (lefts : List Left) (all : AllLeft bytes cells lefts)
    (cover : Cover 0 (length columns) (keys_in cells)) (some : 0 < length columns) (is_whole : Bool) (line : RuleLine)
    (whole : is_whole ≡ is_whole_line line) where
  last : HasColumn (keys_in cells) (length cells - 1) (length columns - 1)
  last = last-column (length columns) (length cells - 1) (keys_in cells) cover
      (length-map cells (λ (c : CellLeft). c.key) ∙ omega (arith, keys-some (length columns) cells cover some))

  pub left-ruled : (is_whole && not (nat_lt 0 (get_or cells 0 no_cell).rows)) ≡ rules_edge line (over_at (overs 0 lefts columns) 0)
  left-ruled =
      edge-at bytes (get_or cells 0 no_cell) lefts columns _ _ 0 is_whole line
      (over-cell bytes cells lefts columns 0 0 no_cell all cover (first-column (length columns) (keys_in cells) cover some)) whole

  pub right-ruled : (is_whole && not (nat_lt 0 (get_or cells (length cells - 1) no_cell).rows))
      ≡ rules_edge line (over_at (overs 0 lefts columns) (length columns - 1))
  right-ruled =
      edge-at bytes (get_or cells (length cells - 1) no_cell) lefts columns _ _ (length columns - 1) is_whole line
      (over-cell bytes cells lefts columns (length cells - 1) (length columns - 1) no_cell all cover last) whole

  pub first-none : within_count (over_at (overs 0 lefts columns) 0) ≡ 0
  first-none =
      first-met bytes (get_or cells 0 no_cell) lefts columns _
      (over-cell bytes cells lefts columns 0 0 no_cell all cover (first-column (length columns) (keys_in cells) cover some))
