use Rattle.std.proofs.Common.{◌≤◌, ℕ, List, [], length, map, refl, ap, subst, ◌∙◌, arith}
use Rattle.tbl_layout.specs.Spans.{cells_of}
use Rattle.tbl_lines.specs.CellsLeft.{Left}
use Rattle.tbl_lines.specs.LinesLeft.{Shown, all_cut, cut_cells, in_order, line_by, row_fronts}
use Rattle.tbl_lines.specs.PictureLines.{Cell, Sheet}
use Rattle.tbl_line_cells.specs.LinesDrawn.{CutOn, Draws, if_any, kept_line}
use Rattle.tbl_line_cells.specs.declared.line_cells.LineCells.{LineCells}
use Rattle.tbl_line_cells.proofs.CellsInColumns.{few-cells, no_cell}
use Rattle.tbl_line_cells.proofs.LineEnded.{Ended, cut-kept, ended, room-ended, row-ended}
use Rattle.tbl_line_cells.proofs.RowKept.{room-kept, room-less, row-kept}
use Rattle.tbl_line_cells.proofs.line_cells.LineCells.lay_row.Goals.{After-order}
use Rattle.tbl_line_cells.proofs.line_cells.LineCells.lay_row.Goals as goal

-- behind what is laid, cells alone change, and what is cut of them: no more than there are columns
behind : (c : After-order) → Ended c.lay_all.new.self c.order.new.self
behind c =
    let cut = c.cut_all.ensures in
    ended cut.line cut.capacity cut.cut_capacity c.order.ensures.line c.order.ensures.capacity

fewer : (c : After-order) → length c.order.new.self.cells.items ≤ length c.args.columns.now
fewer c =
    let few = few-cells c.args.cells.now c.args.columns.now no_cell c.requires.within in
    omega (arith, c.order.ensures.count, c.cut_all.ensures.count, c.lay_all.ensures.count, few)

pub lay_all-requires-clause-room : goal.lay_all-requires-clause-room
lay_all-requires-clause-room c = c.clear.ensures.room (length c.args.columns.now) c.requires.room

pub cut_all-requires : goal.cut_all-requires
cut_all-requires c =
    let kept = c.requires.kept in
    let bytes = c.args.bytes.now in
    let laid = c.lay_all.ensures in
    let row = laid.so_far bytes c.args.bars kept.lefts refl kept.left (c.clear.ensures.nothing bytes) in
    record {
      narrow = c.requires.narrow;
      wide = c.requires.wide;
      laid = record { done = row.done; fronts = row.fronts; so_far = row.so_far };
      fronts = omega (arith, laid.count, laid.count_fronts);
      cells = omega (arith, laid.count, few-cells c.args.cells.now c.args.columns.now no_cell c.requires.within);
      room = (room-kept laid.keeps (c.clear.ensures.room (length c.args.columns.now) c.requires.room)).cut;
      none = ap (λ v. v.items) laid.keeps.cut ∙ c.clear.ensures.no_cut;
      none_cut = laid.keeps.first_cut ∙ c.clear.ensures.none_cut;
    }

pub finish-requires : goal.finish-requires
finish-requires c =
    let here = (goal.at.finish-requires c).After-order in
    let room = room-kept c.lay_all.ensures.keeps (c.clear.ensures.room (length c.args.columns.now) c.requires.room) in
    record {
      row = row-ended (behind here) (row-kept c.lay_all.ensures.keeps c.clear.ensures.row);
      room = room-less (fewer here) (room-ended (behind here) room);
      few = omega (arith, fewer here, c.requires.few);
    }

pub returns-clause-draws : goal.returns-clause-draws
returns-clause-draws c = λ lefts left.
    let bytes = c.args.bytes.now in
    let bars = c.args.bars in
    let width = c.args.width in
    let s : Sheet = record { bars = bars; width = width; columns = c.args.columns.now } in
    let laid = c.lay_all.ensures in
    let row = laid.so_far bytes bars lefts refl left (c.clear.ensures.nothing bytes) in
    let columns = cells_of (map (λ (l : Left). l.key) lefts) s.columns in
    let shown = all_cut s (if_any bars row.fronts) row.done in
    let cut = c.cut_all.ensures.so_far bars row.done row.fronts row.so_far in
    let order = c.order.ensures.so_far bytes shown row.fronts cut in
    subst (λ (text : List ℕ). Draws bytes bars width (kept_line c.finish.new.self) text)
    (ap (λ (fs : List Cell). line_by s fs row.done) row.fronts_of
    ∙ ap (λ (ss : List Shown). line_by s (row_fronts s c.args.last_bars lefts columns) ss) row.shown)
    (c.finish.ensures.draws bytes bars width (in_order [] shown) row.fronts order
    (omega (
      arith,
      laid.count,
      laid.count_fronts,
      c.requires.some,
      c.order.ensures.count,
      c.cut_all.ensures.count,
      ap (λ (x : LineCells). length x.fronts.items) c.order.ensures.line,
      ap (λ (x : LineCells). length x.fronts.items) c.cut_all.ensures.line,
    )))

pub returns-clause-cut : goal.returns-clause-cut
returns-clause-cut c = λ lefts left.
    let bytes = c.args.bytes.now in
    let bars = c.args.bars in
    let s : Sheet = record { bars = bars; width = c.args.width; columns = c.args.columns.now } in
    let count = length s.columns in
    let row = c.lay_all.ensures.so_far bytes bars lefts refl left (c.clear.ensures.nothing bytes) in
    let columns = cells_of (map (λ (l : Left). l.key) lefts) s.columns in
    subst (λ (cut : List Left). CutOn count (kept_line c.finish.new.self) cut)
    (ap (λ (fs : List Cell). cut_cells s fs row.done) row.fronts_of
    ∙ ap (λ (ss : List Shown). cut_cells s (row_fronts s c.args.last_bars lefts columns) ss) row.shown)
    (cut-kept count (cut_cells s (if_any bars row.fronts) row.done) c.cut_all.new.self c.order.new.self c.finish.new.self c.order.ensures.line
    c.finish.ensures.row (c.cut_all.ensures.cut bars row.done row.fronts row.so_far row.order))

pub returns-clause-few : goal.returns-clause-few
returns-clause-few c = omega (arith, c.finish.ensures.count, fewer (goal.at.returns-clause-few c).After-order)

pub returns-clause-signs : goal.returns-clause-signs
returns-clause-signs c =
    c.finish.ensures.signs
    ∙ ap (λ (x : LineCells). x.signs) c.order.ensures.line
    ∙ ap (λ (x : LineCells). x.signs) c.cut_all.ensures.line
    ∙ c.lay_all.ensures.keeps.signs
    ∙ c.clear.ensures.signs

pub returns-clause-room : goal.returns-clause-room
returns-clause-room c = λ room has.
    c.finish.ensures.room room
    (room-ended (behind (goal.at.returns-clause-room c).After-order) (room-kept c.lay_all.ensures.keeps (c.clear.ensures.room room has)))
