use Rattle.std.proofs.Common.{sym, ◌∙◌, arith}
use Rattle.tbl_format.proofs.CellsBehind.{cell_behind-few}
use Rattle.tbl_format.proofs.cells.same_cell.Goals as goal

pub end_of-requires : goal.end_of-requires
end_of-requires c =
    let few = cell_behind-few c.args.keys.now c.start_near.result c.in_ok-found.found c.requires.cells (sym c.cell_behind.ensures ∙ c.in_ok-found.was) in
    omega (arith, few, c.start_near.ensures.near, c.requires.small)
