use Rattle.std.proofs.Common.{List, ℕ, length, sym, ap, subst, arith, Option}
use Rattle.tbl_format.proofs.CellColumns.{columns_of-behind}
use Rattle.tbl_lines.specs.LinesLeft.{overs}
use Rattle.tbl_tall.specs.Bands.{GoThrough}
use Rattle.tbl_line_cells.specs.LinesDrawn.{keys_in}
use Rattle.tbl_tall.proofs.CellsThrough.{length-owners, through-kept}
use Rattle.tbl_tall.proofs.band.Band.end.Goals as goal

pub returns-clause-through : goal.returns-clause-through
returns-clause-through c = λ bytes lefts columns all many.
    subst (λ (xs : List (Option ℕ)). GoThrough xs (overs 0 lefts columns)) (sym c.push_through.ensures.items)
    (through-kept bytes c.args.cells.now lefts columns all c.requires.cells many)

pub returns-clause-columns : goal.returns-clause-columns
returns-clause-columns c =
    omega (
      arith,
      ap length c.push_through.ensures.items,
      length-owners 0 0 c.args.cells.now c.requires.cells,
      columns_of-behind (keys_in c.args.cells.now),
    )
