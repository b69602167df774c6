use Rattle.std.proofs.Common.{◌+◌, ℕ, max, sym, ap, ◌∙◌, length}
use Rattle.tbl_format.specs.RowsServed.{all_rows}
use Rattle.tbl_tall.specs.Bands.{kept_band, rest_shown}
use Rattle.tbl_tall.proofs.BandSteps.{stretch-next, stretch-ruled}
use Rattle.tbl_tall.proofs.band.Band.stretch.Goals as goal

pub returns-then-is_ruled : goal.returns-then-is_ruled
returns-then-is_ruled c = λ all below through shows out.
    let self = c.args.self.now in
    stretch-ruled (all_rows c.args.format.now.format) c.args.boxing (length self.through.items)
    (kept_band self) all below c.args.boundary out c.args.at
    c.loop-line.most c.loop-line.line c.loop-line-test.true (sym (c.is_ruled.ensures all through) ∙ c.if-is_ruled.true)
    (c.loop-line.invariant all below through shows out)

pub loop-line-preserved : goal.loop-line-preserved
loop-line-preserved c = λ all below through shows out.
    let self = c.args.self.now in
    let formats = all_rows c.args.format.now.format in
    let columns = length self.through.items in
    let rest = rest_shown formats c.args.boxing columns (kept_band self) all below (c.loop-line.line + 1) c.args.boundary in
    ap (λ (n : ℕ). max n rest) c.max-most.ensures
    ∙ stretch-next formats c.args.boxing columns (kept_band self) all below c.args.boundary out c.args.at c.loop-line.most c.loop-line.line
    c.own.result
    c.loop-line-test.true (sym (c.is_ruled.ensures all through) ∙ c.if-is_ruled.false) c.own.ensures
    (c.loop-line.invariant all below through shows out)
