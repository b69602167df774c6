use Rattle.std.proofs.Common.{◌≡◌, false, suc, drop, length, sym, ap, subst, ◌∙◌}
use Rattle.tbl_format.specs.RowsServed.{all_rows}
use Rattle.tbl_kept.specs.KeptHeights.{field_kept}
use Rattle.tbl_kept.specs.Rows.{Command, ElementLaid, KeptElement, Row}
use Rattle.tbl_kept.specs.RowsLaying.{element_at}
use Rattle.tbl_tall.proofs.CellsBegun.{begun-is}
use Rattle.tbl_tall.proofs.CellsNext.{get-drop}
use Rattle.tbl_tall.proofs.next_cells.begun.Goals as goal
use Rattle.tbl_line_cells.specs.KeptCells.{IsLeft}
use Rattle.tbl_tall.specs.LinesOver.{lines_kept}
use Rattle.tbl_tall.specs.RowsNext.{begun_kept}
use Rattle.tbl_line_cells.specs.declared.cells.CellLeft.{CellLeft}

pub returns-clause-left : goal.returns-clause-left
returns-clause-left c = λ bytes laid letter.
    let elements = c.args.rows.now.elements in
    let formats = all_rows c.args.format.now.format in
    let r = c.args.row in
    let es = drop (suc r.at) elements in
    let row = Row r.keys r.rules r.height c.requires.row.entries in
    let there : element_at elements r.at ≡ row = get-drop elements r.at row (Command 0 0) es c.requires.row.is in
    let made : CellLeft = record {
      key = c.args.key;
      entry = c.own_entry-entry.result;
      lead = c.lead_of.result;
      place = c.first_place-place.result;
      rows = 0;
      is_used = c.is_used.result;
      stop = 0;
      is_cut = false;
    } in
    subst (λ (e : KeptElement). IsLeft bytes made (begun_kept bytes formats c.args.is_inside e es c.args.cell c.args.key)) (sym there)
    (begun-is bytes formats (length c.args.rows.now.columns) c.args.is_inside r.keys r.rules r.height c.requires.row.entries es
    c.args.cell c.args.key c.args.field c.own_entry-entry.result c.first_place-place.result c.lines_over-more.result c.lead_of.result c.is_used.result
    (subst (λ (e : KeptElement). ElementLaid bytes formats (length c.args.rows.now.columns) e) there laid) letter
    (c.requires.field ∙ ap (λ (e : KeptElement). field_kept formats c.args.cell e) there)
    (c.own_entry-entry.ensures.field bytes) (c.own_entry-entry.ensures.lies bytes) (c.own_entry-entry.ensures.laid bytes)
    (c.lines_over-more.ensures.value bytes ∙ ap (λ (e : KeptElement). lines_kept bytes formats c.args.is_inside e c.args.cell 0 es) there)
    (λ key own. rw c.from.ensures at (c.lead_of.ensures bytes key own))
    (c.first_place-place.ensures.goes_on bytes) (c.first_place-place.ensures.within bytes) (c.is_used.ensures bytes))
