use Rattle.std.proofs.Common.{◌≡◌, ℕ, ◌<◌, List, length, get_or, None, vec_capacity}
use Rattle.tbl_format.specs.RowsServed.{all_rows}
use Rattle.tbl_lines.specs.LinesLeft.{Over, over_at, sign_at}
use Rattle.tbl_tall.proofs.tall_row.passing.fill_signs.Given as goal
use Rattle.tbl_tall.specs.Bands.{GoThrough, kept_band, line_given}

abbrev pub invariant-loop-column : goal.invariant-loop-column
invariant-loop-column l = record {
  many : length l.signs.items ≡ l.column;
  capacity : vec_capacity l.signs ≡ vec_capacity l.fn.signs;
  drawn : (all : List Over) → GoThrough l.band.through.items all → (column : ℕ) → column < l.column
      → get_or l.signs.items column None
      ≡ sign_at (line_given (all_rows l.format.format) (kept_band l.band) l.whole) (over_at all column) column;
}
