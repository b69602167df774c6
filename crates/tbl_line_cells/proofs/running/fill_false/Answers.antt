use Rattle.std.proofs.Common.{[], ◌∷◌, ◌++◌, false, replicate, arith, length-append, ◌∙◌}
use Rattle.tbl_line_cells.proofs.Repeats.{repeat-next}
use Rattle.tbl_line_cells.proofs.running.fill_false.Goals as goal

pub loop-at-preserved : goal.loop-at-preserved
loop-at-preserved c =
    let i = c.loop-at.invariant in
    record {
      items = rw c.push_reserved.ensures.items
          (repeat-next c.loop-at.flags.items false c.args.count c.loop-at.at (replicate c.args.count false) c.loop-at-test.true i.items);
      many = rw c.push_reserved.ensures.items (omega (arith, i.many, length-append c.loop-at.flags.items (false ∷ [])));
      capacity = c.push_reserved.ensures.capacity ∙ i.capacity;
    }
