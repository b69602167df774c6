use Rattle.std.proofs.Common.{ℕ, List, [], length, map, ap, subst, ◌∙◌, arith, Vec, Global, Option, true}
use Rattle.tbl_layout.specs.declared.data_lines.RuleSign.{RuleSign}
use Rattle.tbl_lines.specs.CellsLeft.{Left}
use Rattle.tbl_lines.specs.LinesLeft.{Shown, all_cut, cut_cells, in_order, line_by, rule_fronts, shown_cell}
use Rattle.tbl_lines.specs.PictureLines.{Sheet, line_of, with_fronts}
use Rattle.tbl_line_cells.specs.LinesDrawn.{CutOn, Draws, kept_line}
use Rattle.tbl_line_cells.specs.declared.line_cells.LineCells.{LineCells}
use Rattle.tbl_line_cells.proofs.LineEnded.{Ended, cut-kept, ended, room-ended, row-ended}
use Rattle.tbl_line_cells.proofs.RowKept.{room-kept, room-less, row-kept}
use Rattle.tbl_line_cells.proofs.line_cells.LineCells.lay_rule.Goals.{After-order}
use Rattle.tbl_line_cells.proofs.line_cells.LineCells.lay_rule.Goals as goal

-- behind what is laid, cells alone change, and what is cut of them
behind : (c : After-order) → Ended c.lay_ruled.new.self c.order.new.self
behind c =
    let cut = c.cut_all.ensures in
    ended cut.line cut.capacity cut.cut_capacity c.order.ensures.line c.order.ensures.capacity

pub lay_ruled-requires-clause-signs : goal.lay_ruled-requires-clause-signs
lay_ruled-requires-clause-signs c =
    ap (λ (v : Vec (Option RuleSign) Global). length v.items) c.clear.ensures.signs ∙ c.requires.signs

pub lay_ruled-requires-clause-room : goal.lay_ruled-requires-clause-room
lay_ruled-requires-clause-room c = c.clear.ensures.room (length c.args.columns.now) c.requires.room

pub cut_all-requires : goal.cut_all-requires
cut_all-requires c =
    let g = c.requires.given in
    let bytes = c.args.bytes.now in
    let laid = c.lay_ruled.ensures in
    let row = laid.laid bytes g.lefts g.bars g.line g.above g.below g.whole (rw c.clear.ensures.signs g.given) (c.clear.ensures.nothing bytes) in
    record {
      narrow = c.requires.narrow;
      wide = c.requires.wide;
      laid = record { done = row.done; fronts = row.fronts; so_far = row.so_far };
      fronts = row.many;
      cells = laid.few;
      room = (room-kept laid.keeps (c.clear.ensures.room (length c.args.columns.now) c.requires.room)).cut;
      none = ap (λ v. v.items) laid.keeps.cut ∙ c.clear.ensures.no_cut;
      none_cut = laid.keeps.first_cut ∙ c.clear.ensures.none_cut;
    }

pub finish-requires : goal.finish-requires
finish-requires c =
    let here = (goal.at.finish-requires c).After-order in
    let room = room-kept c.lay_ruled.ensures.keeps (c.clear.ensures.room (length c.args.columns.now) c.requires.room) in
    record {
      row = row-ended (behind here) (row-kept c.lay_ruled.ensures.keeps c.clear.ensures.row);
      room = room-less (omega (arith, c.order.ensures.count, c.cut_all.ensures.count, c.lay_ruled.ensures.few)) (room-ended (behind here) room);
      few = omega (arith, c.order.ensures.count, c.cut_all.ensures.count, c.lay_ruled.ensures.few, c.requires.few);
    }

pub returns-clause-draws : goal.returns-clause-draws
returns-clause-draws c = λ lefts bars line above below whole given.
    let bytes = c.args.bytes.now in
    let width = c.args.width in
    let any = record bars { has_any = true } in
    let s : Sheet = record { bars = bars; width = width; columns = c.args.columns.now } in
    let row = c.lay_ruled.ensures.laid bytes lefts bars line above below whole (rw c.clear.ensures.signs given) (c.clear.ensures.nothing bytes) in
    let shown = all_cut s row.fronts row.done in
    let cut = c.cut_all.ensures.so_far bars row.done row.fronts row.so_far in
    let order = c.order.ensures.so_far bytes shown row.fronts cut in
    let own = rule_fronts s line lefts above below in
    subst (λ (text : List ℕ). Draws bytes any width (kept_line c.finish.new.self) text)
    (row.drawn (map shown_cell (in_order [] shown))
    ∙ ap (λ (ss : List Shown). line_of 0 (with_fronts own (map shown_cell (in_order [] ss)))) row.cut
    ∙ ap (λ (ss : List Shown). line_by s own ss) row.shown)
    (c.finish.ensures.draws bytes any width (in_order [] shown) row.fronts order
    (omega (
      arith,
      row.some,
      row.many,
      c.order.ensures.count,
      c.cut_all.ensures.count,
      ap (λ (x : LineCells). length x.fronts.items) c.order.ensures.line,
      ap (λ (x : LineCells). length x.fronts.items) c.cut_all.ensures.line,
    )))

pub returns-clause-cut : goal.returns-clause-cut
returns-clause-cut c = λ lefts bars line above below whole given.
    let bytes = c.args.bytes.now in
    let s : Sheet = record { bars = bars; width = c.args.width; columns = c.args.columns.now } in
    let count = length s.columns in
    let row = c.lay_ruled.ensures.laid bytes lefts bars line above below whole (rw c.clear.ensures.signs given) (c.clear.ensures.nothing bytes) in
    subst (λ (cut : List Left). CutOn count (kept_line c.finish.new.self) cut)
    (row.cut_of ∙ ap (λ (ss : List Shown). cut_cells s (rule_fronts s line lefts above below) ss) row.shown)
    (cut-kept count (cut_cells s row.fronts row.done) c.cut_all.new.self c.order.new.self c.finish.new.self c.order.ensures.line
    c.finish.ensures.row (c.cut_all.ensures.cut bars row.done row.fronts row.so_far row.order))

pub returns-clause-few : goal.returns-clause-few
returns-clause-few c = omega (arith, c.finish.ensures.count, c.order.ensures.count, c.cut_all.ensures.count, c.lay_ruled.ensures.few)

pub returns-clause-room : goal.returns-clause-room
returns-clause-room c = λ room has.
    c.finish.ensures.room room
    (room-ended (behind (goal.at.returns-clause-room c).After-order) (room-kept c.lay_ruled.ensures.keeps (c.clear.ensures.room room has)))
