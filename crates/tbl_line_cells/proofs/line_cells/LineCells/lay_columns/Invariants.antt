use Rattle.std.proofs.Common.{◌≡◌, ℕ, suc, ◌≤◌, ◌<◌, List, [], ◌∷◌, length, vec_capacity}
use Rattle.tbl_layout.specs.declared.bars.Bars.{Bars}
use Rattle.tbl_lines.specs.CellsLeft.{Left}
use Rattle.tbl_lines.specs.LinesLeft.{Beside}
use Rattle.tbl_lines.specs.PictureLines.{Cell, RuleLine}
use Rattle.tbl_line_cells.specs.LinesDrawn.{SoFar, kept_line, keys_in}
use Rattle.tbl_line_cells.specs.RulesDrawn.{HasColumn, LaidTo, RuleGiven}
use Rattle.tbl_line_cells.proofs.line_cells.LineCells.lay_columns.Given as goal

abbrev pub invariant-loop-at : goal.invariant-loop-at
invariant-loop-at l = record {
  line : l.self ≡ record l.fn.self { cells = l.self.cells; has_running = l.self.has_running; fronts = l.self.fronts };
  within : l.at ≤ length l.columns;
  few : length l.self.cells.items ≤ l.at;
  few_fronts : length l.self.fronts.items ≤ suc l.at;
  most_fronts : length l.self.fronts.items ≤ length l.columns;
  column : l.at < length l.columns → HasColumn (keys_in l.cells) l.cell l.at;
  laid : (bytes : List ℕ) (lefts : List Left) (bars : Bars) (width : ℕ) (line : RuleLine) (above below : Beside) (edge : Cell)
      → RuleGiven bytes l.cells l.fn.self.signs.items l.counts l.columns lefts bars line above below
      → SoFar bytes (kept_line l.fn.self) [] (edge ∷ [])
      → LaidTo bytes (kept_line l.self) (record { bars = bars; width = width; columns = l.columns }) lefts line above below edge l.from l.to l.at;
  capacity : vec_capacity l.self.cells ≡ vec_capacity l.fn.self.cells;
  front_capacity : vec_capacity l.self.fronts ≡ vec_capacity l.fn.self.fronts;
}
