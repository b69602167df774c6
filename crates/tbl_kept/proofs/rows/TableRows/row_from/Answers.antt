use Rattle.std.proofs.Common.{◌<◌, ◌+◌, length, drop, sym, ap, ◌∙◌, arith}
use Rattle.tbl_kept.specs.KeptHeights.{first_row}
use Rattle.tbl_kept.specs.Rows.{KeptRows}
use Rattle.tbl_kept.proofs.HeightSteps.{first_row-over, no-row}
use Rattle.tbl_kept.proofs.RowPlaces.{drop-kept}
use Rattle.tbl_kept.proofs.rows.TableRows.row_from.Goals as goal

pub returns-in-Row : goal.returns-in-Row
returns-in-Row c =
    let a = c.self.inside in
    let at = c.loop-at.at in
    let more : at < length a.elements.items = omega (arith, c.loop-at-test.true, c.len-at-end.ensures, a.elements.ok.0) in
    sym (c.loop-at.invariant.rest
    ∙ ap (λ (k : KeptRows). first_row at (drop at k.elements)) (sym c.self.view_is)
    ∙ ap (first_row at) (drop-kept a.entries.items a.elements.items at c.index.result.now _ more (sym c.index.ensures ∙ c.in-Row.is)))

pub loop-at-preserved : goal.loop-at-preserved
loop-at-preserved c = record {
  rest =
      let a = c.self.inside in
      let at = c.loop-at.at in
      let more : at < length a.elements.items = omega (arith, c.loop-at-test.true, c.len-at-end.ensures, a.elements.ok.0) in
      c.loop-at.invariant.rest
      ∙ ap (λ (k : KeptRows). first_row at (drop at k.elements)) (sym c.self.view_is)
      ∙ first_row-over a.entries.items a.elements.items at c.index.result.now c.index.result.now more (sym c.index.ensures) (no-row c.index.result.now c.in_default.not-Row)
      ∙ ap (λ (k : KeptRows). first_row (at + 1) (drop (at + 1) k.elements)) c.self.view_is;
}
