-- Cells behind a line on which all of them stand, or those alone that go on (Lesk, "Tbl": Format).
use Rattle.std.specs.Prelude.{ℕ, zero, suc, Bool, true, false, List, [], ◌∷◌}
use Rattle.tbl_lines.specs.CellsLeft.{Left, behind_line}
use Rattle.tbl_lines.specs.PictureLeft.{through_rule}
use Rattle.tbl_line_cells.specs.KeptCells.{IsLeft}
use Rattle.tbl_line_cells.specs.declared.cells.CellLeft.{CellLeft}

-- behind a line of rules, or of a row
abbrev pub passed : Bool → Left → Left
passed true l = through_rule l
passed false l = behind_line l

-- the first ones of some cells are behind it
abbrev pub passed_at : Bool → ℕ → List Left → List Left
passed_at is_rule zero lefts = lefts
passed_at is_rule (suc at) [] = []
passed_at is_rule (suc at) (l ∷ lefts) = passed is_rule l ∷ passed_at is_rule at lefts

-- a cell is kept as something is left
pub record IsKept (bytes : List ℕ) (c : CellLeft) : Type 0 where
  pub left : Left
  pub is : IsLeft bytes c left
