use Rattle.std.proofs.Common.{◌≡◌, false, length, List, max}
use Rattle.tbl_format.specs.RowsServed.{all_rows}
use Rattle.tbl_lines.specs.LinesLeft.{Beside, Over, is_within, over_at}
use Rattle.tbl_tall.specs.Bands.{GoThrough, ShowBars, kept_band, rest_shown}
use Rattle.tbl_tall.proofs.band.Band.stretch.Given as goal

abbrev pub invariant-loop-line : goal.invariant-loop-line
invariant-loop-line l = (all : List Over) (below : Beside) → GoThrough l.self.through.items all
    → ShowBars l.boxing (length l.self.through.items) l.self.below.items below → is_within (over_at all l.boundary) ≡ false
    → max l.most (rest_shown (all_rows l.format.format) l.boxing (length l.self.through.items) (kept_band l.self) all below l.line l.boundary)
    ≡ rest_shown (all_rows l.format.format) l.boxing (length l.self.through.items) (kept_band l.self) all below l.at l.boundary
