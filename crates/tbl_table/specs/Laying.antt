-- A table that is laid out.
use Rattle.std.specs.Prelude.{◌≡◌, ℕ, Bool, List}
use Rattle.tbl_format.specs.RowsServed.{all_rows}
use Rattle.tbl_kept.specs.Rows.{RowsLaid, SameRoom, elements_of}
use Rattle.tbl_layout.specs.Columns.{Laid, gaps, lacking, placed_with, total, width_of_all}
use Rattle.tbl_layout.specs.Entries.{Element}
use Rattle.tbl_layout.specs.Spans.{columns_laid, filled, laid}
use Rattle.tbl_layout.specs.declared.bars.Bars.{Bars}
use Rattle.tbl_layout.specs.declared.columns.Column.{Column}
use Rattle.tbl_data.specs.declared.table_data.TableData.{TableData}

-- what stands in a table whose texts lie in these bytes
abbrev pub body_of : List ℕ → TableData → List Element
body_of bytes d = elements_of bytes (all_rows d.format.format) d.rows.elements

-- its columns with their widths
abbrev pub columns_by : Bars → ℕ → List ℕ → TableData → List Column
columns_by bars line_length bytes d = columns_laid bars line_length d.format.format.asked (body_of bytes d)

-- how many columns of the page are spread, and how many there are
abbrev pub lacking_by : Bars → Bool → ℕ → List ℕ → TableData → ℕ
lacking_by bars is_expanded line_length bytes d =
    let asked = d.format.format.asked in
    lacking is_expanded line_length (width_of_all bars (columns_by bars line_length bytes d) asked) (total (gaps bars asked))

abbrev pub laid_by : Bars → Bool → ℕ → List ℕ → TableData → Laid
laid_by bars is_expanded line_length bytes d =
    laid bars is_expanded line_length d.format.format.asked (body_of bytes d)

-- its blocks have their lines, and its columns their widths
pub record IsLaid (bytes : List ℕ) (bars : Bars) (line_length : ℕ) (old new : TableData) : Type 0 where
  pub laid : RowsLaid bytes (all_rows old.format.format) bars.boxing.is_inside new.rows
  pub body : elements_of bytes (all_rows old.format.format) new.rows.elements
      ≡ filled bars line_length old.format.format.asked (body_of bytes old)
  pub columns : new.rows.columns ≡ columns_by bars line_length bytes old
  pub rooms : SameRoom old.rows new.rows
  pub same : new ≡ record old { rows = new.rows; escapes = new.escapes }

-- its columns have their places, where so many columns of the page are spread
abbrev pub with_places : Bars → ℕ → TableData → TableData
with_places bars more d =
    record d { rows = record d.rows { columns = placed_with bars more d.format.format.asked d.rows.columns } }
