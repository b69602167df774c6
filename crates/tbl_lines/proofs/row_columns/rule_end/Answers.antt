use Rattle.std.proofs.Common.{◌≡◌, ℕ, suc, ◌+◌, Bool, List, drop, get_or, sym, ap, ◌∙◌, arith, if◌then◌else◌}
use Rattle.std.proofs.lemmas.List.{drop_all}
use Rattle.tbl_layout.specs.KeptEntries.{no_entry}
use Rattle.tbl_layout.specs.declared.columns.Column.{Column}
use Rattle.tbl_layout.specs.declared.entry.Entry.{Entry}
use Rattle.tbl_lines.specs.PictureLines.{bars_between, joint}
use Rattle.tbl_lines.specs.RowsLeft.{is_ruled_by, rule_end_by}
use Rattle.tbl_lines.proofs.CellsLent.{cell-lies}
use Rattle.tbl_lines.proofs.RowColumns.{rule_end-before, rule_end-last}
use Rattle.tbl_lines.specs.RowsLent.{lent_columns, lent_entries, lent_format}
use Rattle.tbl_lines.proofs.row_columns.rule_end.Goals as goal

pub overflow_add-next : goal.overflow_add-next
overflow_add-next c =
    let row = c.args.row.now in
    let lies = cell-lies row.keys.now row.columns.now c.args.at c.requires.lies.cells (omega (arith, c.requires.entry, c.requires.cells)) in
    omega (arith, lies.few, c.requires.lies.few)

pub returns-then-next-cells : goal.returns-then-next-cells
returns-then-next-cells c =
    let row = c.args.row.now in
    let columns = lent_columns row in
    let entries = lent_entries row in
    let next : c.args.at + 1 ≡ suc c.args.at = omega arith in
    let column = c.args.column in
    let sign = c.args.sign in
    let at = c.args.at + 1 in
    let bars : ℕ → ℕ = λ n. bars_between row.bars.boxing (lent_format row) n in
    let ends : ℕ → Bool → ℕ = λ n t. if t then joint n column c.cell.result else column.start + column.width in
    let joins : Entry → Bool = λ e. is_ruled_by sign e.kind in
    c.rule_end_before.ensures
    ∙ ap (ends c.bars_between.result) (c.is_ruled-is_joined.ensures ∙ ap joins (c.entry_at.ensures row.last_bars))
    ∙ ap (λ (n : ℕ). ends n (joins (get_or entries at no_entry))) c.bars_between.ensures
    ∙ sym (rule_end-before (bars at) sign column c.cell.result at (drop (suc at) columns) entries)
    ∙ ap (λ (cs : List Column). rule_end_by (bars at) sign column cs (drop at entries)) (sym c.cell.ensures.at)
    ∙ ap (λ (n : ℕ). rule_end_by (bars n) sign column (drop n columns) (drop n entries)) next

pub returns-else-next-cells : goal.returns-else-next-cells
returns-else-next-cells c =
    let row = c.args.row.now in
    let at = suc c.args.at in
    sym (rule_end-last (bars_between row.bars.boxing (lent_format row) at) c.args.sign c.args.column (drop at (lent_columns row)) (drop at (lent_entries row))
    (drop_all at (lent_columns row) (omega (arith, c.if-next-cells.false, c.cells.ensures))))
