-- What is given to stand in front of the cells of a row is as much as it has to be.
use Rattle.std.proofs.Common.{◌≡◌, Bor, List, length, map, Option, None, Some, ◌∙◌}
use Rattle.std.specs.Option.{MatchOption, option_map}
use Rattle.std.proofs.lemmas.List.{length-map}
use Rattle.tbl_layout.specs.declared.columns.Column.{Column}
use Rattle.tbl_lines.specs.RowsLeft.{cell_of_front}
use Rattle.tbl_lines.specs.RowsLent.{AreFronts, HasFronts, LiesInColumns, lent_columns, lent_row}
use Rattle.tbl_lines.specs.RowsWalked.{front_count}
use Rattle.tbl_lines.specs.declared.fronts.Front.{Front}
use Rattle.tbl_lines.specs.declared.row_lent.RowLent.{RowLent}

enough : (columns : List Column) (given : Option (Bor (List Front)))
    → MatchOption given (Unit {0}) (λ fronts. AreFronts columns fronts.now)
    → MatchOption (option_map (λ fronts. map cell_of_front fronts.now) given) (Unit {0}) (λ cells. length cells ≡ front_count columns)
enough columns None are = tt
enough columns (Some fronts) are = length-map fronts.now cell_of_front ∙ are.count

pub fronts-lent : (row : RowLent) → LiesInColumns row → HasFronts (lent_row row)
fronts-lent row lies = enough (lent_columns row) row.fronts lies.fronts
