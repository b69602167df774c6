use Rattle.std.proofs.Common.{[], ◌∷◌, ◌++◌, replicate, arith, length-append, ◌∙◌}
use Rattle.tbl_line_cells.proofs.Repeats.{repeat-next}
use Rattle.tbl_tall.proofs.shown_bars.push_nothing.Goals as goal

pub loop-at-preserved : goal.loop-at-preserved
loop-at-preserved c =
    let i = c.loop-at.invariant in
    record {
      items = rw c.push_reserved.ensures.items
          (repeat-next c.loop-at.bars.items 0 c.args.count c.loop-at.at (c.args.bars.now.items ++ replicate c.args.count 0) c.loop-at-test.true
          i.items);
      many = rw c.push_reserved.ensures.items (omega (arith, i.many, length-append c.loop-at.bars.items (0 ∷ [])));
      capacity = c.push_reserved.ensures.capacity ∙ i.capacity;
    }
