-- The cells of a row have all columns of its table.
use Rattle.std.proofs.Common.{◌≡◌, ℕ, List, [], ◌∷◌, sym, ◌∙◌}
use Rattle.tbl_format.specs.Cells.{AreCells}
use Rattle.tbl_format.specs.Format.{columns_of_keys}
use Rattle.tbl_format.specs.declared.format.FormatKey.{FormatKey}
use Rattle.tbl_format.proofs.CellColumns.{columns_behind, columns_of-behind}
use Rattle.tbl_line_cells.specs.RulesDrawn.{Cover}

cover-from : (from count : ℕ) (keys : List FormatKey) → AreCells from keys → columns_behind from keys ≡ count → Cover from count keys
cover-from from count [] cells all = all
cover-from from count (k ∷ keys) cells all = (cells.0, cover-from k.end count keys cells.1 all)

pub covers : (count : ℕ) (keys : List FormatKey) → AreCells 0 keys → columns_of_keys keys ≡ count → Cover 0 count keys
covers count keys cells all = cover-from 0 count keys cells (sym (columns_of-behind keys) ∙ all)
