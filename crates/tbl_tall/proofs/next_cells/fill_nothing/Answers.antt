use Rattle.std.proofs.Common.{◌≡◌, false, ◌<◌, ◌≤◌, ◌+◌, ◌-◌, ℕ, [], ◌∷◌, List, length, subst, ◌∙◌, arith, length-append}
use Rattle.tbl_format.specs.declared.format.FormatKey.{FormatKey}
use Rattle.tbl_layout.specs.KeptEntries.{no_entry}
use Rattle.tbl_lines.specs.CellsLeft.{Left, keys_behind, nothing_left}
use Rattle.tbl_tall.proofs.CellsBegun.{nothing-is}
use Rattle.tbl_tall.proofs.CellsNext.{all-next, cells-map, end-left, keys-behind-many, next-left}
use Rattle.tbl_tall.proofs.next_cells.fill_nothing.Goals as goal
use Rattle.tbl_line_cells.specs.KeptCells.{AllLeft, IsKeyAt}
use Rattle.tbl_tall.specs.RowsNext.{cells_by}
use Rattle.tbl_line_cells.specs.declared.cells.CellLeft.{CellLeft}
use Rattle.tbl_text.specs.declared.block_parts.BlockPlace.TheVariants.{AtEnd}

pub loop-cell-preserved : goal.loop-cell-preserved
loop-cell-preserved c =
    let i = c.loop-cell.invariant in
    let columns = c.args.columns in
    let cell = c.loop-cell.cell in
    let keys = keys_behind columns 0 0 in
    let f : ℕ → FormatKey → Left = λ n k. nothing_left k in
    let few : cell < 0 + (columns - 0) = omega (arith, c.loop-cell-test.true) in
    let same : columns - 0 ≡ columns = omega arith in
    let made : CellLeft = record { key = c.key_of.result; entry = no_entry; lead = 0; place = AtEnd; rows = 0; is_used = false; stop = 0; is_cut = false } in
    let is : IsKeyAt c.key_of.result cell keys
    = subst (λ (n : ℕ). IsKeyAt c.key_of.result cell (keys_behind n 0 0)) same (c.key_of.ensures columns few) in
    record {
      left = λ bytes more rest. rw c.push_reserved.ensures.items
          (next-left bytes f keys (cells_by f 0 keys) c.loop-cell.cells.items cell made c.key_of.result (i.left bytes) is (nothing-is bytes c.key_of.result) more rest);
      come = λ n. rw c.push_reserved.ensures.items (all-next (λ (x : CellLeft). x.rows ≤ n) c.loop-cell.cells.items made (i.come n) (omega arith));
      many = rw c.push_reserved.ensures.items (omega (arith, i.many, length-append c.loop-cell.cells.items (made ∷ [])));
      capacity = c.push_reserved.ensures.capacity ∙ i.capacity;
    }

pub returns-clause-left : goal.returns-clause-left
returns-clause-left c = λ bytes.
    let columns = c.args.columns in
    let keys = keys_behind columns 0 0 in
    let f : ℕ → FormatKey → Left = λ n k. nothing_left k in
    let past : length keys ≤ c.loop-cell.cell = omega (arith, keys-behind-many columns 0 0, c.loop-cell-test.false) in
    subst (λ (lefts : List Left). AllLeft bytes c.loop-cell.cells.items lefts) (cells-map nothing_left 0 keys)
    (end-left bytes f keys (cells_by f 0 keys) c.loop-cell.cells.items c.loop-cell.cell (c.loop-cell.invariant.left bytes) past)
