use Rattle.std.proofs.Common.{◌≡◌, ℕ, false, sym, ap, subst, ◌∙◌, Some, Option}
use Rattle.std.specs.Option.{MatchOption}
use Rattle.tbl_format.specs.RowsServed.{all_rows}
use Rattle.tbl_kept.specs.KeptHeights.{field_kept}
use Rattle.tbl_kept.specs.RowsLaying.{element_at, goes_on}
use Rattle.tbl_layout.specs.declared.entry.Entry.{Entry}
use Rattle.tbl_lines.specs.CellsLeft.{cell_by}
use Rattle.tbl_tall.proofs.CellsNext.{above-is, none-above}
use Rattle.tbl_tall.proofs.next_cells.left_above.Goals as goal
use Rattle.tbl_tall.specs.RowsNext.{GoesOnWith, above_kept}

pub returns-then-not-goes_on-clause-left : goal.returns-then-not-goes_on-clause-left
returns-then-not-goes_on-clause-left c = λ bytes above lefts new there all.
    let formats = all_rows c.args.format.now.format in
    let row = element_at c.args.rows.now.elements c.args.row.at in
    let not : goes_on (field_kept formats c.args.cell row).kind ≡ false
    = ap (λ (e : Entry). goes_on e.kind) (sym c.field_of.ensures) ∙ sym c.goes_on.ensures ∙ c.if-not-goes_on.true in
    ap (λ (o : Option ℕ). cell_by o lefts new) (none-above bytes formats above row c.args.cell not)

pub returns-in-Some-cell_above-clause-left : goal.returns-in-Some-cell_above-clause-left
returns-in-Some-cell_above-clause-left c = λ bytes above lefts new there all.
    let elements = c.args.rows.now.elements in
    let formats = all_rows c.args.format.now.format in
    let row = element_at elements c.args.row.at in
    let other : above_kept bytes formats above row c.args.cell ≡ Some c.in-Some-cell_above.other
    = sym (above-is bytes formats elements c.args.row.above c.in-Some.above above c.args.cell row c.in-Some.is there)
    ∙ sym (c.cell_above.ensures bytes) ∙ c.in-Some-cell_above.is in
    subst (λ (o : Option ℕ). MatchOption c.cell_at.result (cell_by o lefts new ≡ new) (GoesOnWith bytes o lefts new)) (sym other)
    (c.cell_at.ensures.left bytes lefts new all)

pub returns-in-None-cell_above-clause-left : goal.returns-in-None-cell_above-clause-left
returns-in-None-cell_above-clause-left c = λ bytes above lefts new there all.
    let elements = c.args.rows.now.elements in
    let formats = all_rows c.args.format.now.format in
    let row = element_at elements c.args.row.at in
    ap (λ (o : Option ℕ). cell_by o lefts new)
    (sym (above-is bytes formats elements c.args.row.above c.in-Some.above above c.args.cell row c.in-Some.is there)
    ∙ sym (c.cell_above.ensures bytes) ∙ c.in-None-cell_above.is)
