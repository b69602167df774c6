use Rattle.std.proofs.Common.{◌≡◌, ℕ, List, drop, get_or}
use Rattle.tbl_format.specs.RowsServed.{all_rows, row_at}
use Rattle.tbl_giving.proofs.cuts.cut_in_row.Given as goal
use Rattle.tbl_giving.specs.CutsCounted.{LinesCounted, RowOnly}
use Rattle.tbl_layout.specs.Entries.{Content}
use Rattle.tbl_lines.specs.PictureLines.{Sheet}
use Rattle.tbl_tall.specs.LinesOver.{heights_kept}

abbrev pub invariant-loop-tall : goal.invariant-loop-tall
invariant-loop-tall l = record {
  counted : (keys : ℕ) (fields : List Content) (total : ℕ)
      → let s : Sheet = record { bars = l.drawn.bars; width = l.drawn.width; columns = l.rows.columns } in
      (row : RowOnly l.drawn.bytes.now (all_rows l.format.format) s l.rows l.fn.tall l.at keys fields total)
      → LinesCounted l.count l.drawn.bytes.now s l.tall (row_at (all_rows l.format.format) keys) row.cells
      (get_or (heights_kept (drop l.at l.rows.elements)) 0 0);
  come : l.tall.come ≡ l.fn.tall.come;
  room : l.tall.room ≡ l.fn.tall.room;
  escapes : l.escapes.room ≡ l.fn.escapes.room;
}

abbrev pub decreases-loop-tall : goal.decreases-loop-tall
decreases-loop-tall l = l.tall.lines_left
