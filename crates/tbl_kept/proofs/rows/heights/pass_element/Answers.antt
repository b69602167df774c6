use Rattle.std.proofs.Common.{◌≡◌, length, sym, ◌∙◌, arith}
use Rattle.tbl_format.specs.Cells.{cell_count}
use Rattle.tbl_format.specs.RowsServed.{all_rows}
use Rattle.tbl_kept.proofs.HeightSteps.{cells-room}
use Rattle.tbl_kept.proofs.RowPassed.{row-passed}
use Rattle.tbl_kept.proofs.RowPlaces.{LieBetween-set}
use Rattle.tbl_kept.specs.declared.rows.Element.TheVariants.{Command as OneCommand}
use Rattle.tbl_kept.proofs.rows.heights.pass_element.Goals as goal

pub pass_row-height-requires-clause-room : goal.pass_row-height-requires-clause-room
pass_row-height-requires-clause-room c =
    let columns = length c.args.fields.format.now.format.asked in
    let keys = c.row_cells-cells.result.keys.now in
    let count : c.cell_count-count.result ≡ cell_count keys columns = rw c.asked-asked.ensures.value at c.cell_count-count.ensures in
    let few = cells-room columns keys c.row_cells-cells.ensures.within in
    record { here = omega (arith, count, few, c.requires.room.here); above = omega (arith, count, few, c.requires.room.above) }

pub returns-in-Row-clause-raised : goal.returns-in-Row-clause-raised
returns-in-Row-clause-raised c = λ bytes laid.
    let formats = all_rows c.args.fields.format.now.format in
    let columns = length c.args.fields.format.now.format.asked in
    let cells = c.row_cells-cells.result in
    let below = c.cells_from-below.result in
    let count : c.cell_count-count.result ≡ cell_count cells.keys.now columns = rw c.asked-asked.ensures.value at c.cell_count-count.ensures in
    rw c.with_height.ensures
    (row-passed bytes formats c.args.is_inside columns c.args.pass.above.now c.args.lefts.now.above.items c.args.pass.rules c.args.fields.entries.now
    c.args.elements.now c.args.at c.in-Row.row c.pass_row-height.new.lefts.above.items c.pass_row-height.result cells.keys.now below.keys.now
    cells.entries.now below.entries.now c.requires.at (sym c.element_in.ensures ∙ c.in-Row.is) c.row_cells-cells.ensures.keys
    c.row_cells-cells.ensures.entries laid
    (λ bars own. rw (c.rules_between-between.ensures, count) at (c.pass_row-height.ensures.left bytes bars own))
    (λ bars keys cell. c.cells_from-below.ensures.seen bytes bars keys cell))

pub returns-in-Row-clause-places : goal.returns-in-Row-clause-places
returns-in-Row-clause-places c = λ from to lie.
    rw c.with_height.ensures
    (LieBetween-set c.in-Row.row c.pass_row-height.result from to c.args.at c.args.elements.now (OneCommand 0 0) c.requires.at
    (sym c.element_in.ensures ∙ c.in-Row.is) lie)
