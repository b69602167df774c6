use Rattle.std.proofs.Common.{◌≤◌, suc, List, drop, length, sym, subst, ◌∙◌}
use Rattle.std.proofs.lemmas.List.{with_items_is}
use Rattle.std.specs.List.{AllByRecursion}
use Rattle.tbl_format.specs.Format.{FormatRow}
use Rattle.tbl_format.specs.RowsServed.{all_rows, row_at}
use Rattle.tbl_kept.specs.Rows.{Command, ElementLaid, elements_of}
use Rattle.tbl_kept.specs.RowsLaying.{element_at}
use Rattle.tbl_lines.specs.CellsLeft.{all_keys, all_stopped}
use Rattle.tbl_line_cells.specs.KeptCells.{AllLeft}
use Rattle.tbl_line_cells.specs.declared.cells.CellLeft.{CellLeft}
use Rattle.tbl_tall.proofs.CellsNext.{all-at}
use Rattle.tbl_tall.proofs.StopsBelow.{coming-format, coming-row}
use Rattle.tbl_tall.proofs.next_cells.fill_cells.Goals as goal
use Rattle.tbl_tall.specs.RowsNext.{HasKeys, cell_kept, cells_by}

pub set_stops-requires-clause-row : goal.set_stops-requires-clause-row
set_stops-requires-clause-row c = coming-row c.args.rows.now.elements c.args.row c.requires.row

pub set_stops-requires-clause-keys : goal.set_stops-requires-clause-keys
set_stops-requires-clause-keys c =
    let formats = all_rows c.args.format.now.format in
    let n = length c.args.rows.now.columns in
    rw c.as_mut_slice.ensures.value
    (subst (λ (f : FormatRow). HasKeys c.fill_left.new.cells.items (all_keys n f)) (sym (coming-format formats c.args.rows.now.elements c.args.row c.requires.row))
    c.fill_left.ensures.keys)

pub returns-clause-left : goal.returns-clause-left
returns-clause-left c = λ bytes above lefts laid there all.
    let elements = c.args.rows.now.elements in
    let formats = all_rows c.args.format.now.format in
    let n = length c.args.rows.now.columns in
    let row = element_at elements c.args.row.at in
    let es = drop (suc c.args.row.at) elements in
    let cells = cells_by (cell_kept bytes formats c.args.is_inside above lefts row es) 0 (all_keys n (row_at formats c.args.row.keys)) in
    let here = all-at (ElementLaid bytes formats n) elements c.args.row.at (Command 0 0) c.requires.at laid in
    let kept : AllLeft bytes c.fill_left.new.cells.items cells = c.fill_left.ensures.left bytes above lefts here there all in
    let written = with_items_is c.fill_left.new.cells c.set_stops.new.cells (c.set_stops.auto.cells ∙ c.as_mut_slice.ensures.len) in
    let served = row_at formats c.args.row.keys in
    subst (λ (cs : List CellLeft). AllLeft bytes cs (all_stopped n served.keys (elements_of bytes formats es) 0 cells)) (sym written)
    (subst (λ (f : FormatRow). AllLeft bytes c.set_stops.new.cells (all_stopped n f.keys (elements_of bytes formats es) 0 cells))
    (coming-format formats elements c.args.row c.requires.row)
    ((rw c.as_mut_slice.ensures.value at c.set_stops.ensures.left) bytes cells laid kept))

pub returns-clause-keys : goal.returns-clause-keys
returns-clause-keys c =
    let formats = all_rows c.args.format.now.format in
    let n = length c.args.rows.now.columns in
    let written = with_items_is c.fill_left.new.cells c.set_stops.new.cells (c.set_stops.auto.cells ∙ c.as_mut_slice.ensures.len) in
    let own = all_keys n (row_at formats c.args.row.keys) in
    subst (λ (cs : List CellLeft). HasKeys cs own) (sym written)
    ((rw c.as_mut_slice.ensures.value at c.set_stops.ensures.keys) own c.fill_left.ensures.keys)

pub returns-clause-come : goal.returns-clause-come
returns-clause-come c = λ n come.
    let written = with_items_is c.fill_left.new.cells c.set_stops.new.cells (c.set_stops.auto.cells ∙ c.as_mut_slice.ensures.len) in
    subst (λ (cs : List CellLeft). AllByRecursion (λ (x : CellLeft). x.rows ≤ n) cs) (sym written)
    ((rw c.as_mut_slice.ensures.value at c.set_stops.ensures.come) n (c.fill_left.ensures.come n come))
