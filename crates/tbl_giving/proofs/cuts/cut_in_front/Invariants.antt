use Rattle.std.proofs.Common.{◌≡◌, ℕ, List}
use Rattle.tbl_format.specs.RowsServed.{all_rows}
use Rattle.tbl_giving.proofs.CutsInFront.{fronts_left}
use Rattle.tbl_giving.proofs.cuts.cut_in_front.Given as goal
use Rattle.tbl_giving.specs.CutsCounted.{CutsCome, FrontGoes, FrontOf}
use Rattle.tbl_layout.specs.Entries.{Element}
use Rattle.tbl_lines.specs.PictureLines.{Sheet}
use Rattle.tbl_tall.specs.BandLaws.{NextPlaces}

abbrev pub invariant-loop-tall : goal.invariant-loop-tall
invariant-loop-tall l = record {
  goes : (heights : List ℕ) (elements row : List Element) (count : ℕ)
      → let s : Sheet = record { bars = l.drawn.bars; width = l.drawn.width; columns = l.rows.columns } in
      NextPlaces s elements → FrontOf elements row → CutsCome l.drawn.bytes.now (all_rows l.format.format) s l.fn.tall heights elements count
      → FrontGoes l.count l.drawn.bytes.now (all_rows l.format.format) s l.tall heights row count;
  come : l.tall.come ≡ l.fn.tall.come;
  room : l.tall.room ≡ l.fn.tall.room;
  escapes : l.escapes.room ≡ l.fn.escapes.room;
}

abbrev pub decreases-loop-tall : goal.decreases-loop-tall
decreases-loop-tall l = fronts_left (all_rows l.format.format) l.tall.band
