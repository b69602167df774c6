-- The column of a row that is read where the walk stands.
use Rattle.std.proofs.Common.{◌≡◌, ℕ, suc, ◌<◌, List, ◌∷◌, length, drop, subst}
use Rattle.tbl_lines.specs.RowsLeft.{row_columns}
use Rattle.tbl_picture.specs.Walks.{AtColumn, InLine, KeptWalk, WalkedRow}
use Rattle.tbl_picture.proofs.ColumnSteps.{at-column}
use Rattle.tbl_text.specs.declared.block_parts.BlockPlace.{BlockPlace}
use Rattle.tbl_lines.specs.declared.row_columns.RowColumn.{RowColumn}

-- a column that is read where the walk stands
pub column-read : (row : WalkedRow) (w : KeptWalk) (r : RowColumn) (places : List BlockPlace) (n : ℕ) → InLine row w
    → length w.behind < length row.entries → n ≡ length w.behind → places ≡ w.places
    → drop n (row_columns row.bars.boxing row.format 0 row.columns row.entries places)
    ≡ r ∷ drop (suc n) (row_columns row.bars.boxing row.format 0 row.columns row.entries places)
    → AtColumn row w r
column-read row w r places n line left at same first =
    let all : List BlockPlace → ℕ → Type 0 = λ places n.
    drop n (row_columns row.bars.boxing row.format 0 row.columns row.entries places) ≡ r ∷ drop (suc n) (row_columns row.bars.boxing row.format 0 row.columns row.entries places) in
    at-column row w r line left (subst (λ (n : ℕ). all w.places n) at (subst (λ (places : List BlockPlace). all places n) same first))
