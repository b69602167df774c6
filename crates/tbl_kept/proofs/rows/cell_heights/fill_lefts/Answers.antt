use Rattle.std.proofs.Common.{[], ◌∷◌, arith, length-append, ◌∙◌}
use Rattle.tbl_kept.specs.KeptHeights.{cells_of}
use Rattle.tbl_kept.proofs.CellHeights.{lefts-next}
use Rattle.tbl_kept.proofs.rows.cell_heights.fill_lefts.Goals as goal

pub loop-cell-preserved : goal.loop-cell-preserved
loop-cell-preserved c =
    let i = c.loop-cell.invariant in
    let keys = c.args.cells.keys.now in
    record {
      items = λ bytes bars laid. rw c.push_reserved.ensures.items
          (lefts-next c.args.above.now c.args.left_above.now c.args.between (record { keys = keys; bars = bars })
          (cells_of bytes bars keys c.args.cells.entries.now) c.loop-cell.left.items c.loop-cell.cell c.args.count c.left_of.result c.loop-cell-test.true
          (c.left_of.ensures bytes bars laid) ∙ i.items bytes bars laid);
      many = rw c.push_reserved.ensures.items (omega (arith, i.many, length-append c.loop-cell.left.items (c.left_of.result ∷ [])));
      capacity = c.push_reserved.ensures.capacity ∙ i.capacity;
    }
