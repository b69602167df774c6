-- A table that is kept, of whose fields and keys none goes on with the cell above it: its lines are those of its rows, each by itself.
use Rattle.std.proofs.Common.{◌≡◌, ℕ, zero, suc, ◌-◌, ◌<◌, List, [], ◌∷◌, length, drop, arith}
use Rattle.std.specs.List.{AllByRecursion}
use Rattle.tbl_format.specs.Format.{FormatRow}
use Rattle.tbl_format.specs.RowsServed.{row_at}
use Rattle.tbl_layout.specs.declared.columns.Column.{Column}
use Rattle.tbl_kept.specs.Rows.{Command, ElementLaid, KeptElement, Row, Rule, elements_of}
use Rattle.tbl_kept.proofs.RowsUnfilled.{each-drop, each-take}
use Rattle.tbl_lines.specs.PictureLeft.{table_lines}
use Rattle.tbl_lines.specs.PictureLines.{Sheet, picture_lines}
use Rattle.tbl_layout.specs.Heights.{NoneAbove}
use Rattle.tbl_lines.specs.RowsAlone.{AllHaveWidth, AllPlaced, AllWithin}
use Rattle.tbl_lines.specs.RulePlaces.{HasPlaces, HavePlaces}
use Rattle.tbl_lines.proofs.PlainTables.{plain-table}

module _ (bytes : List ℕ) (formats : List FormatRow) where
  pub within-kept : (count : ℕ) (elements : List KeptElement) → AllByRecursion (ElementLaid bytes formats count) elements
      → AllWithin count (elements_of bytes formats elements)
  within-kept count [] laid = tt
  within-kept count (Row keys rules height entries ∷ elements) laid = (laid.0.cells, within-kept count elements laid.1)
  within-kept count (Rule sign ∷ elements) laid = within-kept count elements laid.1
  within-kept count (Command from to ∷ elements) laid = within-kept count elements laid.1

  module _ (front : ℕ) (columns : List Column) (all : AllByRecursion (HasPlaces front columns) formats) where
    row-has : (rows : List FormatRow) (at : ℕ) → AllByRecursion (HasPlaces front columns) rows → at < length rows
        → HasPlaces front columns (row_at rows at)
    row-has [] at have some = absurd (omega (arith, some))
    row-has (row ∷ rows) zero have some = have.0
    row-has (row ∷ rows) (suc at) have some = row-has rows at have.1 (omega (arith, some))

    pub placed-kept : (count : ℕ) (elements : List KeptElement) → AllByRecursion (ElementLaid bytes formats count) elements
        → AllPlaced front columns (elements_of bytes formats elements)
    placed-kept count [] laid = tt
    placed-kept count (Row keys rules height entries ∷ elements) laid =
        let P : FormatRow → Type 0 = HasPlaces front columns in (
          (row-has formats keys all laid.0.serves, each-take P rules (drop (keys - rules) formats) (each-drop P (keys - rules) formats all)),
          placed-kept count elements laid.1,
        )
    placed-kept count (Rule sign ∷ elements) laid = placed-kept count elements laid.1
    placed-kept count (Command from to ∷ elements) laid = placed-kept count elements laid.1

-- so its lines are the plain ones
pub plain-kept : (bytes : List ℕ) (formats : List FormatRow) (s : Sheet) (elements : List KeptElement) → AllByRecursion NoneAbove (elements_of bytes formats elements)
    → AllHaveWidth (elements_of bytes formats elements) → AllByRecursion (ElementLaid bytes formats (length s.columns)) elements
    → 0 < length s.columns → HavePlaces formats s → table_lines s (elements_of bytes formats elements) ≡ picture_lines s (elements_of bytes formats elements)
plain-kept bytes formats s elements none plain laid some places =
    plain-table s (elements_of bytes formats elements) none some
    (within-kept bytes formats (length s.columns) elements laid) plain places.order
    (placed-kept bytes formats s.bars.front s.columns places.rows (length s.columns) elements laid)
