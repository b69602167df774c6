use Rattle.std.proofs.Common.{◌-◌, ◌<◌, length, drop, refl, ◌∙◌, arith}
use Rattle.tbl_kept.proofs.CellSteps.{cell-within, cells-behind, cells-left, is-first, left-order}
use Rattle.tbl_kept.proofs.FieldsFitted.{next-fitted, none-fitted}
use Rattle.tbl_kept.proofs.held_columns.fit_fields.Goals as goal

pub loop-at-init : goal.loop-at-init
loop-at-init c = record {
  done = refl;
  left = cells-left (length c.args.columns.now) c.args.keys.now (length c.args.keys.now - 0) c.requires.cells (omega arith);
  same = refl;
}

pub cell_behind-cell-requires : goal.cell_behind-cell-requires
cell_behind-cell-requires c =
    omega (
      arith,
      c.requires.few,
      left-order (length c.args.columns.now) c.loop-at.from (drop c.loop-at.at c.args.keys.now) (length c.args.keys.now - c.loop-at.at) c.loop-at.invariant.left,
    )

pub fit_field-requires-clause-order : goal.fit_field-requires-clause-order
fit_field-requires-clause-order c =
    let keys = c.args.keys.now in
    let cell = c.cell_behind-cell.result in
    (cell-within (length c.args.columns.now) c.loop-at.from keys c.loop-at.at (length keys) c.loop-at.invariant.left
    (omega (arith, c.loop-at-test.true, c.min-at-end.ensures)) cell
    (is-first keys c.loop-at.at c.loop-at.from cell (c.cell_behind-cell.ensures.key 0) c.cell_behind-cell.ensures.from
    c.cell_behind-cell.ensures.end c.cell_behind-cell.ensures.width)).order

pub fit_field-requires-clause-within : goal.fit_field-requires-clause-within
fit_field-requires-clause-within c =
    let keys = c.args.keys.now in
    let cell = c.cell_behind-cell.result in
    let within = cell-within (length c.args.columns.now) c.loop-at.from keys c.loop-at.at (length keys) c.loop-at.invariant.left
    (omega (arith, c.loop-at-test.true, c.min-at-end.ensures)) cell
    (is-first keys c.loop-at.at c.loop-at.from cell (c.cell_behind-cell.ensures.key 0) c.cell_behind-cell.ensures.from
    c.cell_behind-cell.ensures.end c.cell_behind-cell.ensures.width) in
    omega (arith, within.within, c.loop-at.invariant.same)

pub loop-at-preserved : goal.loop-at-preserved
loop-at-preserved c =
    let keys = c.args.keys.now in
    let entries = c.args.entries.now in
    let columns = c.loop-at.columns in
    let at = c.loop-at.at in
    let from = c.loop-at.from in
    let cell = c.cell_behind-cell.result in
    let i = c.loop-at.invariant in
    let some : at < length entries = omega (arith, c.loop-at-test.true, c.min-at-end.ensures) in
    let more : at < length keys = omega (arith, c.loop-at-test.true, c.min-at-end.ensures) in
    let is = is-first keys at from cell (c.cell_behind-cell.ensures.key 0) c.cell_behind-cell.ensures.from
    c.cell_behind-cell.ensures.end c.cell_behind-cell.ensures.width in
    record {
      done = next-fitted c.args.bars c.args.asked.now from keys at cell entries columns c.fit_field.new.columns some more is c.fit_field.ensures ∙ i.done;
      left = cells-behind (length c.args.columns.now) from keys at (length keys) i.left more cell is;
      same = c.fit_field.auto.columns ∙ i.same;
    }

pub returns : goal.returns
returns c =
    none-fitted c.args.bars c.args.asked.now c.loop-at.from c.args.keys.now c.loop-at.at c.args.entries.now c.loop-at.columns
    (omega (arith, c.loop-at-test.false, c.min-at-end.ensures))
    ∙ c.loop-at.invariant.done
