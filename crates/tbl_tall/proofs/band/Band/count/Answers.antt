use Rattle.std.proofs.Common.{◌≡◌, ℕ, ◌+◌, List, [], ◌∷◌, get_or, length, subst, ap, ◌∙◌, arith, length-append}
use Rattle.tbl_format.specs.RowsServed.{all_rows}
use Rattle.tbl_lines.specs.LinesLeft.{Beside, Over, bars_met}
use Rattle.tbl_tall.specs.Bands.{BandStands, band_line, kept_band, lines_behind}
use Rattle.tbl_tall.specs.declared.band.Band.{Band}
use Rattle.tbl_tall.proofs.BandSteps.{counts-next}
use Rattle.tbl_tall.proofs.band.Band.count.Goals as goal

pub loop-boundary-preserved : goal.loop-boundary-preserved
loop-boundary-preserved c =
    let i = c.loop-boundary.invariant in
    let formats = all_rows c.args.format.now.format in
    let bars = c.args.bars in
    let at = c.loop-boundary.boundary in
    let xs = c.loop-boundary.self.counts.items in
    let v = c.met_at-count.result in
    let met_of : Band → List Over → Beside → Beside → ℕ → ℕ = λ b all above below boundary.
    bars_met bars (length b.through.items) (band_line formats (kept_band b) b.at) all above (lines_behind formats (kept_band b) all
    (b.at + 1) below) boundary in
    let Met : Band → Type 0 = λ b. (all : List Over) (above below : Beside)
    → BandStands formats bars (length b.through.items) (kept_band b) all above below → v ≡ met_of b all above below at in
    let here : Met c.args.self.now = subst Met i.same c.met_at-count.ensures in
    record {
      same = ap (λ (b : Band). record b { counts = c.push_reserved.new.self }) i.same;
      many = omega (arith, ap length c.push_reserved.ensures.items, length-append xs (v ∷ []), i.many);
      capacity = c.push_reserved.ensures.capacity ∙ i.capacity;
      met = λ all above below stands boundary few.
          ap (λ (ys : List ℕ). get_or ys boundary 0) c.push_reserved.ensures.items
          ∙ counts-next (met_of c.args.self.now all above below) xs v at i.many (here all above below stands)
          (i.met all above below stands) boundary few;
    }
