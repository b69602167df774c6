use Rattle.std.proofs.Common.{ℕ, ◌≤◌, ◌+◌, ◌-◌, List, [], ◌∷◌, ◌++◌, drop, length, take, sym, ap, subst, ◌∙◌, arith, vec_capacity}
use Rattle.std.proofs.lemmas.List.{length_push}
use Rattle.tbl_format.specs.Cells.{AreCells}
use Rattle.tbl_format.specs.Format.{columns_of_keys}
use Rattle.tbl_format.specs.declared.format.FormatKey.{FormatKey}
use Rattle.tbl_layout.specs.Spans.{cells_of}
use Rattle.tbl_lines.specs.LinesLeft.{bars_there, between, row_shown, shown}
use Rattle.tbl_lines.specs.PictureLines.{Cell}
use Rattle.tbl_line_cells.specs.LaidCells.{on_line}
use Rattle.tbl_line_cells.specs.LinesDrawn.{RunInOrder, kept_line, keys_in}
use Rattle.tbl_line_cells.specs.declared.line_cells.LineCells.{LineCells}
use Rattle.tbl_line_cells.proofs.CellsInColumns.{few-cells, no_cell}
use Rattle.tbl_line_cells.proofs.RowDrawn.{row-fronts-are, row-shown-is}
use Rattle.tbl_line_cells.proofs.RowKept.{keeps-cell, keeps-cells, keeps-front, keeps-then, room-kept}
use Rattle.tbl_line_cells.proofs.RowLaid.{keys-left, last-left, row-whole}
use Rattle.tbl_line_cells.proofs.RunOrder.{row-order}
use Rattle.tbl_line_cells.proofs.line_cells.LineCells.lay_all.Goals as goal

pub lay_cells-column-requires-clause-room : goal.lay_cells-column-requires-clause-room
lay_cells-column-requires-clause-room c =
    let front = c.push_front in
    room-kept (keeps-front c.args.self.now front.new.self front.ensures.line front.ensures.capacity) c.requires.room

pub push_cell-requires-clause-room : goal.push_cell-requires-clause-room
push_cell-requires-clause-room c =
    let laid = c.lay_cells-column.ensures in
    let same = ap (λ (x : LineCells). vec_capacity x.cells) c.push_front.ensures.line in
    omega (arith, laid.count, laid.capacity, same, c.requires.room.cells, few-cells c.args.cells.now c.args.columns.now no_cell c.requires.within)

pub push_front-requires-2 : goal.push_front-requires-2
push_front-requires-2 c =
    let laid = c.lay_cells-column.ensures in
    let same = ap (λ (x : LineCells). vec_capacity x.fronts) c.push_cell.ensures.line in
    let many = ap (λ (x : LineCells). length x.fronts.items) c.push_cell.ensures.line in
    record {
      room = omega (
        arith,
        laid.count_fronts,
        laid.capacity_fronts,
        same,
        many,
        c.push_front.ensures.capacity,
        c.requires.room.fronts,
        few-cells c.args.cells.now c.args.columns.now no_cell c.requires.within,
      );
    }

pub returns-clause-so_far : goal.returns-clause-so_far
returns-clause-so_far c = λ bytes bars lefts boxing_is all_left so_far.
    let cells = c.args.cells.now in
    let columns = c.args.columns.now in
    let boxing = c.args.boxing in
    let width = c.args.width in
    let all = cells_of (keys_in cells) columns in
    let n = length cells - 1 in
    let left = c.edge_bars-left.result in
    let right = c.edge_bars-right.result in
    let column = c.lay_cells-column.result in
    let one = last-left bytes n cells lefts no_cell all_left (omega (arith, c.requires.some)) in
    let done = take n (row_shown boxing lefts all) in
    let s = shown one.l column (column.start + column.width) in
    let first : List Cell = bars_there 0 left ∷ [] in
    let fronts : List Cell = first ++ between boxing lefts all in
    let last = bars_there (width - right) right in
    let place = c.saturating_sub.ensures in
    let shows = c.bars_at-2.ensures.shows ∙ ap (λ (at : ℕ). on_line (bars_there at right)) place in
    let front = c.push_front.ensures.so_far bytes (bars_there 0 left) [] [] c.bars_at.ensures.some c.bars_at.ensures.shows so_far in
    let row = c.lay_cells-column.ensures.so_far bytes lefts first all_left front in
    let cell = c.push_cell.ensures.so_far bytes one.l done fronts one.last row in
    record {
      done = done ++ s ∷ [];
      fronts = fronts ++ last ∷ [];
      so_far = c.push_front-2.ensures.so_far bytes last (done ++ s ∷ []) fronts c.bars_at-2.ensures.some shows cell;
      shown =
          row-whole boxing bytes (kept_line c.args.self.now) fronts lefts all n one.l column (drop (length cells) all) one.are
          c.lay_cells-column.ensures.last
          ∙ row-shown-is bytes bars columns boxing cells lefts boxing_is all_left;
      order = subst (RunInOrder (length columns) 0)
          (sym (row-whole boxing bytes (kept_line c.args.self.now) fronts lefts all n one.l column (drop (length cells) all) one.are
          c.lay_cells-column.ensures.last))
          (row-order boxing (length columns) lefts all
          (subst (AreCells 0) (sym (keys-left bytes cells lefts all_left)) c.requires.within.cells)
          (subst (λ (ks : List FormatKey). columns_of_keys ks ≤ length columns) (sym (keys-left bytes cells lefts all_left)) c.requires.within.short));
      fronts_of = row-fronts-are bytes bars width columns boxing cells lefts c.args.last_bars left right no_cell boxing_is all_left c.requires.some
          c.edge_bars-left.ensures c.edge_bars-right.ensures;
    }

pub returns-clause-keeps : goal.returns-clause-keeps
returns-clause-keeps c =
    let old = c.args.self.now in
    let front = c.push_front in
    let laid = c.lay_cells-column in
    let cell = c.push_cell in
    let last = c.push_front-2 in
    keeps-then old front.new.self last.new.self (keeps-front old front.new.self front.ensures.line front.ensures.capacity)
    (keeps-then front.new.self laid.new.self last.new.self
    (keeps-cells front.new.self laid.new.self laid.ensures.line laid.ensures.capacity laid.ensures.capacity_fronts)
    (keeps-then laid.new.self cell.new.self last.new.self (keeps-cell laid.new.self cell.new.self cell.ensures.line cell.ensures.capacity)
    (keeps-front cell.new.self last.new.self last.ensures.line last.ensures.capacity)))

pub returns-clause-count : goal.returns-clause-count
returns-clause-count c =
    let same = ap (λ (x : LineCells). length x.cells.items) c.push_front-2.ensures.line in
    omega (arith, c.push_cell.ensures.count, c.lay_cells-column.ensures.count, same)

pub returns-clause-count_fronts : goal.returns-clause-count_fronts
returns-clause-count_fronts c =
    let same = ap (λ (x : LineCells). length x.fronts.items) c.push_cell.ensures.line in
    let more = length_push c.push_cell.new.self.fronts.items c.bars_at-2.result in
    omega (arith, ap length c.push_front-2.ensures.value, more, c.lay_cells-column.ensures.count_fronts, same)
