-- Rows that are laid out lie in the columns.
use Rattle.std.proofs.Common.{ℕ, Bool, List, [], ◌∷◌, length}
use Rattle.std.specs.List.{AllByRecursion}
use Rattle.tbl_format.specs.Format.{FormatRow}
use Rattle.tbl_kept.specs.Rows.{Command, ElementLaid, KeptElement, KeptRows, Row, RowsLaid, Rule}
use Rattle.tbl_tall.specs.TallRows.{ElementLies, RowsLie}

all-lie : (bytes : List ℕ) (formats : List FormatRow) (columns : ℕ) (elements : List KeptElement) → AllByRecursion (ElementLaid bytes formats columns) elements
    → AllByRecursion (ElementLies formats columns) elements
all-lie bytes formats columns [] laid = tt
all-lie bytes formats columns (Row keys rules height entries ∷ elements) laid =
    (record { serves = laid.0.serves; in_front = laid.0.in_front; cells = laid.0.cells }, all-lie bytes formats columns elements laid.1)
all-lie bytes formats columns (Rule sign ∷ elements) laid = (tt, all-lie bytes formats columns elements laid.1)
all-lie bytes formats columns (Command from to ∷ elements) laid = (tt, all-lie bytes formats columns elements laid.1)

pub laid-lie : (bytes : List ℕ) (formats : List FormatRow) (is_inside : Bool) (rows : KeptRows) → RowsLaid bytes formats is_inside rows → RowsLie formats rows
laid-lie bytes formats is_inside rows laid = all-lie bytes formats (length rows.columns) rows.elements laid.elements
