use Rattle.std.proofs.Common.{◌∙◌}
use Rattle.std.proofs.lemmas.List.{with_items_is}
use Rattle.tbl_kept.proofs.rows.cell_heights.lower_all.Goals as goal

pub returns-clause-items : goal.returns-clause-items
returns-clause-items c =
    rw (with_items_is c.args.left.now c.lower.new.left (c.lower.auto.left ∙ c.as_mut_slice.ensures.len))
    (rw c.as_mut_slice.ensures.value at c.lower.ensures)
