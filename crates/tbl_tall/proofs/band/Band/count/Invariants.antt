use Rattle.std.proofs.Common.{◌≡◌, ◌+◌, ◌<◌, get_or, length, List, ℕ, vec_capacity}
use Rattle.tbl_format.specs.RowsServed.{all_rows}
use Rattle.tbl_lines.specs.LinesLeft.{Beside, Over, bars_met}
use Rattle.tbl_tall.specs.Bands.{BandStands, band_line, kept_band, lines_behind}
use Rattle.tbl_tall.proofs.band.Band.count.Given as goal

abbrev pub invariant-loop-boundary : goal.invariant-loop-boundary
invariant-loop-boundary l = record {
  same : l.self ≡ record l.fn.self { counts = l.self.counts };
  many : length l.self.counts.items ≡ l.boundary;
  capacity : vec_capacity l.self.counts ≡ vec_capacity l.fn.self.counts;
  met : (all : List Over) (above below : Beside)
      → BandStands (all_rows l.format.format) l.bars (length l.fn.self.through.items) (kept_band l.fn.self) all above below
      → (boundary : ℕ) → boundary < l.boundary → get_or l.self.counts.items boundary 0
      ≡ bars_met l.bars (length l.fn.self.through.items) (band_line (all_rows l.format.format) (kept_band l.fn.self) l.fn.self.at) all above
      (lines_behind (all_rows l.format.format) (kept_band l.fn.self) all (l.fn.self.at + 1) below) boundary;
}
