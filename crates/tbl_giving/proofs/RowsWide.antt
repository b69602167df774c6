-- Rows of a table whose formats have no letter `z` have a width.
use Rattle.std.proofs.Common.{ℕ, zero, suc, ◌<◌, List, [], ◌∷◌, length, arith}
use Rattle.std.specs.List.{AllByRecursion}
use Rattle.tbl_format.specs.Format.{FormatRow}
use Rattle.tbl_format.specs.RowsServed.{row_at}
use Rattle.tbl_kept.specs.Rows.{Command, ElementLaid, KeptElement, Row, Rule, elements_of}
use Rattle.tbl_kept.specs.RowsLaying.{AllFormatsCount}
use Rattle.tbl_lines.specs.RowsAlone.{AllHaveWidth, HaveWidth}

row-wide : (formats : List FormatRow) (at : ℕ) → AllFormatsCount formats → at < length formats → HaveWidth (row_at formats at).keys
row-wide [] at count some = absurd (omega (arith, some))
row-wide (row ∷ formats) zero count some = count.0
row-wide (row ∷ formats) (suc at) count some = row-wide formats at count.1 (omega (arith, some))

module _ (bytes : List ℕ) (formats : List FormatRow) (count : AllFormatsCount formats) (columns : ℕ) where
  pub rows-wide : (elements : List KeptElement) → AllByRecursion (ElementLaid bytes formats columns) elements
      → AllHaveWidth (elements_of bytes formats elements)
  rows-wide [] laid = tt
  rows-wide (Row keys rules height entries ∷ elements) laid = (row-wide formats keys count laid.0.serves, rows-wide elements laid.1)
  rows-wide (Rule sign ∷ elements) laid = rows-wide elements laid.1
  rows-wide (Command from to ∷ elements) laid = rows-wide elements laid.1
