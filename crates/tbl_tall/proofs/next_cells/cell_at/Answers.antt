use Rattle.tbl_lines.specs.CellsLeft.{gone_on}
use Rattle.tbl_tall.proofs.CellsNext.{left-past, left-there}
use Rattle.tbl_tall.proofs.next_cells.cell_at.Goals as goal

pub returns-in-Some-clause-left : goal.returns-in-Some-clause-left
returns-in-Some-clause-left c = λ bytes lefts new all.
    let read = c.in-Some.ensures.lookup in
    left-there bytes c.args.cells.now lefts c.args.at c.in-Some.cell.now new read.3.0 read.1 all

pub returns-in-None-clause-left : goal.returns-in-None-clause-left
returns-in-None-clause-left c = λ bytes lefts new all.
    left-past bytes c.args.cells.now lefts c.args.at (gone_on new.key) new c.in-None.ensures.lookup.3 all
