use Rattle.std.proofs.Common.{◌≡◌, ◌≤◌}
use Rattle.tbl_format.specs.RowsServed.{all_rows}
use Rattle.tbl_giving.proofs.cuts.count_cut.Given as goal
use Rattle.tbl_giving.specs.CutsCounted.{ElementGoes}
use Rattle.tbl_kept.specs.Rows.{elements_of}
use Rattle.tbl_lines.specs.CutEntries.{cut_entries}
use Rattle.tbl_lines.specs.PictureLines.{Sheet}

abbrev pub invariant-loop-at : goal.invariant-loop-at
invariant-loop-at l = record {
  goes : let s : Sheet = record { bars = l.drawn.bars; width = l.drawn.width; columns = l.rows.columns } in
      ElementGoes l.count l.drawn.bytes.now (all_rows l.format.format) s l.rows l.tall l.at
      (cut_entries s (elements_of l.drawn.bytes.now (all_rows l.format.format) l.rows.elements));
  come : l.tall.come ≤ l.at;
  room : l.tall.room ≡ l.fn.tall.room;
  escapes : l.escapes.room ≡ l.fn.escapes.room;
}
