use Rattle.std.proofs.Common.{rules, ◌<◌, ◌≤◌, List, length, sym, ap, ◌∙◌}
use Rattle.tbl_format.specs.RowsServed.{all_rows}
use Rattle.tbl_kept.specs.declared.rows.Element.TheVariants.{Command as OneCommand}
use Rattle.tbl_kept.specs.KeptHeights.{seen}
use Rattle.tbl_kept.specs.RowsInside.{LiesIn}
use Rattle.tbl_layout.specs.Heights.{ends_in_front_of}
use Rattle.tbl_layout.specs.declared.entry.Entry.{Entry}
use Rattle.tbl_kept.proofs.HeightSteps.{no-row, seen-end, seen-over, seen-row}
use Rattle.tbl_kept.proofs.Stepping.{next-all}
use Rattle.tbl_kept.proofs.rows.heights.cells_from.Goals as goal

pub returns-in-Row-clause-seen : goal.returns-in-Row-clause-seen
returns-in-Row-clause-seen c = λ bytes bars keys cell.
    let more : c.loop-at.at < length c.args.elements.now = search rules in
    c.loop-at.invariant.rest bytes keys cell
    ∙ seen-row bytes (all_rows c.args.fields.format.now.format) c.args.fields.entries.now c.args.elements.now c.loop-at.at (OneCommand 0 0) c.in-Row.row c.row_cells.result.keys.now
    more (sym c.element_in.ensures ∙ c.in-Row.is) c.row_cells.ensures.keys bars keys cell
    ∙ ap (λ (es : List Entry). ends_in_front_of keys (seen bytes bars c.row_cells.result.keys.now es) cell) (sym c.row_cells.ensures.entries)

pub returns-clause-seen : goal.returns-clause-seen
returns-clause-seen c = λ bytes bars keys cell.
    let end : length c.args.elements.now ≤ c.loop-at.at = search rules in
    c.loop-at.invariant.rest bytes keys cell
    ∙ seen-end bytes (all_rows c.args.fields.format.now.format) c.args.fields.entries.now c.args.elements.now c.loop-at.at end bars keys cell

pub loop-at-preserved : goal.loop-at-preserved
loop-at-preserved c =
    let elements = c.args.elements.now in
    let at = c.loop-at.at in
    let i = c.loop-at.invariant in
    let more : at < length elements = search rules in
    let fields = c.args.fields.entries.now in
    let formats = all_rows c.args.fields.format.now.format in
    record {
      lie = (next-all (LiesIn (length fields) (length formats)) elements at (OneCommand 0 0) more i.lie).1;
      rest = λ bytes keys cell. i.rest bytes keys cell
          ∙ seen-over bytes formats fields elements at (OneCommand 0 0) c.element_in.result more (sym c.element_in.ensures)
          (no-row c.element_in.result c.in_default.not-Row) keys cell;
    }
