use Rattle.std.proofs.Common.{◌<◌, ◌≤◌, List, length, sym, ap, ◌∙◌, arith}
use Rattle.std.proofs.lemmas.List.{drop_all, drop_more}
use Rattle.tbl_format.specs.RowsServed.{all_rows}
use Rattle.tbl_layout.proofs.Spreading.{length-all_fitted}
use Rattle.tbl_kept.specs.Rows.{Command, KeptElement, KeptRows}
use Rattle.tbl_kept.specs.RowsLaying.{ElementWithin, element_at, fitted_rows, wide_in}
use Rattle.tbl_kept.proofs.RowPlaces.{length-kept}
use Rattle.tbl_kept.proofs.RowsLaidOut.{rows-same}
use Rattle.tbl_kept.proofs.Stepping.{next-all}
use Rattle.tbl_kept.proofs.rows.TableRows.fit_rows.Goals as goal

pub fit_row-requires-clause-kept : goal.fit_row-requires-clause-kept
fit_row-requires-clause-kept c =
    let k = c.loop-at.self in
    let i = c.loop-at.invariant in
    let count = ap (λ (r : KeptRows). length r.elements) c.self.view_is in
    let more : c.loop-at.at < length k.elements =
    omega (arith, c.loop-at-test.true, c.len-at-end.ensures, c.self.inside.elements.ok.0, length-kept c.self.inside.entries.items c.self.inside.elements.items, count, ap length i.elements) in
    (next-all (ElementWithin (all_rows c.args.format.now.format)) k.elements c.loop-at.at (Command 0 0) more i.kept).0

pub loop-at-preserved : goal.loop-at-preserved
loop-at-preserved c =
    let k = c.loop-at.self in
    let at = c.loop-at.at in
    let i = c.loop-at.invariant in
    let bars = c.args.bars in
    let asked = c.args.format.now.format.asked in
    let formats = all_rows c.args.format.now.format in
    let count = ap (λ (r : KeptRows). length r.elements) c.self.view_is in
    let more : at < length k.elements =
    omega (arith, c.loop-at-test.true, c.len-at-end.ensures, c.self.inside.elements.ok.0, length-kept c.self.inside.entries.items c.self.inside.elements.items, count, ap length i.elements) in
    rw c.fit_row.ensures (record {
      columns = ap (λ (els : List KeptElement). fitted_rows formats bars asked els k.columns) (sym (drop_more k.elements at (Command 0 0) more)) ∙ i.columns;
      kept = (next-all (ElementWithin formats) k.elements at (Command 0 0) more i.kept).1;
      wide = length-all_fitted bars asked (wide_in formats (element_at k.elements at)) k.columns ∙ i.wide;
      elements = i.elements;
      row = i.row;
      rooms = record { entries = i.rooms.entries; elements = i.rooms.elements; columns = i.rooms.columns };
    })

pub returns : goal.returns
returns c =
    let k = c.loop-at.self in
    let at = c.loop-at.at in
    let i = c.loop-at.invariant in
    let formats = all_rows c.args.format.now.format in
    let count = ap (λ (r : KeptRows). length r.elements) c.self.view_is in
    let end : length k.elements ≤ at =
    omega (arith, c.loop-at-test.false, c.len-at-end.ensures, c.self.inside.elements.ok.0, length-kept c.self.inside.entries.items c.self.inside.elements.items, count, ap length i.elements) in
    rows-same c.args.self.now k (fitted_rows formats c.args.bars c.args.format.now.format.asked c.args.self.now.elements c.args.self.now.columns) i.elements i.row
    (sym (ap (λ (els : List KeptElement). fitted_rows formats c.args.bars c.args.format.now.format.asked els k.columns) (drop_all at k.elements end)) ∙ i.columns) i.rooms
