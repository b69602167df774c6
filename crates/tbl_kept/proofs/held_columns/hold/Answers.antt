use Rattle.std.proofs.Common.{◌+◌, ◌-◌, ◌<◌, ℕ, List, ◌++◌, length, take, drop, get_or, refl, sym, subst, ap, ◌∙◌, arith, take-append-drop}
use Rattle.std.proofs.lemmas.List.{drop_all, drop_more}
use Rattle.tbl_layout.specs.Columns.{row_stands}
use Rattle.tbl_layout.specs.KeptEntries.{stands_of}
use Rattle.tbl_layout.specs.declared.entry.Entry.{Entry}
use Rattle.tbl_kept.specs.Rows.{held_by}
use Rattle.tbl_kept.specs.RowsLaying.{IsOpenedKind}
use Rattle.tbl_kept.proofs.CellSteps.{CellsLeft, cell-within, cells-behind, cells-left, is-first, left-order}
use Rattle.tbl_kept.proofs.RowsNext.{next-held, no_entry}
use Rattle.tbl_kept.proofs.Stepping.{next-all}
use Rattle.tbl_kept.proofs.held_columns.hold.Goals as goal

pub loop-at-init : goal.loop-at-init
loop-at-init c = record {
  done = refl;
  opened = c.requires.opened;
  left = cells-left (length c.args.columns.now) c.args.keys.now (length c.args.entries.now - 0) c.requires.cells (omega (arith, c.requires.short));
  same = refl;
}

pub cell_behind-cell-requires : goal.cell_behind-cell-requires
cell_behind-cell-requires c =
    let order = left-order (length c.args.columns.now) c.loop-at.from (drop c.loop-at.at c.args.keys.now) (length c.args.entries.now - c.loop-at.at) c.loop-at.invariant.left in
    omega (arith, order, c.loop-at.invariant.same)

pub hold_field-requires-clause-order : goal.hold_field-requires-clause-order
hold_field-requires-clause-order c =
    let keys = c.args.keys.now in
    let cell = c.cell_behind-cell.result in
    (cell-within (length c.args.columns.now) c.loop-at.from keys c.loop-at.at (length c.args.entries.now) c.loop-at.invariant.left c.loop-at-test.true cell
    (is-first keys c.loop-at.at c.loop-at.from cell (c.cell_behind-cell.ensures.key 0) c.cell_behind-cell.ensures.from
    c.cell_behind-cell.ensures.end c.cell_behind-cell.ensures.width)).order

pub hold_field-requires-clause-within : goal.hold_field-requires-clause-within
hold_field-requires-clause-within c =
    let keys = c.args.keys.now in
    let cell = c.cell_behind-cell.result in
    let within = cell-within (length c.args.columns.now) c.loop-at.from keys c.loop-at.at (length c.args.entries.now) c.loop-at.invariant.left c.loop-at-test.true cell
    (is-first keys c.loop-at.at c.loop-at.from cell (c.cell_behind-cell.ensures.key 0) c.cell_behind-cell.ensures.from
    c.cell_behind-cell.ensures.end c.cell_behind-cell.ensures.width) in
    omega (arith, within.within, c.loop-at.invariant.same)

pub loop-at-preserved : goal.loop-at-preserved
loop-at-preserved c =
    let keys = c.args.keys.now in
    let entries = c.args.entries.now in
    let columns = c.loop-at.columns in
    let at = c.loop-at.at in
    let from = c.loop-at.from in
    let cell = c.cell_behind-cell.result in
    let i = c.loop-at.invariant in
    let some : at < length entries = omega (arith, c.loop-at-test.true) in
    let is = is-first keys at from cell (c.cell_behind-cell.ensures.key 0) c.cell_behind-cell.ensures.from
    c.cell_behind-cell.ensures.end c.cell_behind-cell.ensures.width in
    let left = subst (λ (n : ℕ). CellsLeft n from (drop at keys) (length entries - at)) (sym i.same) i.left in
    record {
      done = next-held stands_of from keys at cell (get_or entries at no_entry) (drop (at + 1) entries) columns c.hold_field.new.columns is
          (cell-within (length columns) from keys at (length entries) left some cell is) c.hold_field.ensures
          ∙ ap (λ (es : List Entry). take from columns ++ held_by (row_stands stands_of from (drop at keys) es) (drop from columns)) (sym (drop_more entries at no_entry some))
          ∙ i.done;
      opened = (next-all (λ (e : Entry). IsOpenedKind e.kind) entries at no_entry some i.opened).1;
      left = cells-behind (length c.args.columns.now) from keys at (length entries) i.left some cell is;
      same = c.hold_field.auto.columns ∙ i.same;
    }

pub returns : goal.returns
returns c bars =
    let columns = c.loop-at.columns in
    let from = c.loop-at.from in
    let none = drop_all c.loop-at.at c.args.entries.now (omega (arith, c.loop-at-test.false)) in
    sym (take-append-drop from columns)
    ∙ ap (λ (es : List Entry). take from columns ++ held_by (row_stands stands_of from (drop c.loop-at.at c.args.keys.now) es) (drop from columns)) (sym none)
    ∙ c.loop-at.invariant.done
