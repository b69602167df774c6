use Rattle.std.proofs.Common.{◌≡◌, ℕ, ◌<◌, ◌≤◌, suc, false, ap, [], ◌∷◌, drop, length, List, sym, subst, ◌∙◌, arith, length-append, Option, vec_capacity}
use Rattle.std.specs.List.{AllByRecursion}
use Rattle.tbl_format.proofs.CellColumns.{cell-within}
use Rattle.tbl_format.specs.Cells.{cell_count}
use Rattle.tbl_format.specs.FormatRows.{AreWithin}
use Rattle.tbl_format.specs.RowsServed.{all_rows, row_at}
use Rattle.tbl_format.specs.declared.format.FormatKey.{FormatKey}
use Rattle.tbl_kept.proofs.HeightSteps.{cells-room}
use Rattle.tbl_kept.specs.KeptHeights.{field_kept}
use Rattle.tbl_kept.specs.Rows.{ElementLaid}
use Rattle.tbl_kept.specs.RowsLaying.{element_at, goes_on}
use Rattle.tbl_layout.specs.declared.entry.Entry.{Entry}
use Rattle.tbl_lines.specs.CellsLeft.{Left, all_keys, cell_by}
use Rattle.tbl_tall.proofs.CellsNext.{OneMore, all-next, end-key, end-left, key-lent, keys-many, letter-at, next-key, next-left, none-above, row-within}
use Rattle.tbl_tall.proofs.next_cells.fill_left.Goals.{After-loop-cell, In-loop-cell, else-goes_on, then-goes_on}
use Rattle.tbl_tall.proofs.next_cells.fill_left.Goals as goal
use Rattle.tbl_line_cells.specs.KeptCells.{AllLeft, IsKeyAt, IsLeft}
use Rattle.tbl_tall.specs.RowsNext.{RowAbove, begun_kept, cell_kept, cells_by}
use Rattle.tbl_line_cells.specs.declared.cells.CellLeft.{CellLeft}

-- the cells of the row lie within the columns, and this is one of them
record OneOf (keys : List FormatKey) (columns cell : ℕ) : Type 0 where
  within : AreWithin columns keys
  some : cell < cell_count keys columns

one-of : (c : In-loop-cell) → OneOf c.row_of_all-keys.result.now (length c.args.rows.now.columns) c.loop-cell.cell
one-of c =
    let n = length c.args.rows.now.columns in
    let count = rw c.columns.ensures at c.cell_count-count.ensures in
    let within = row-within (all_rows c.args.format.now.format) n c.args.rows.now.elements c.args.row c.requires.at c.requires.row c.requires.lie in
    record { within = rw c.row_of_all-keys.ensures.keys within; some = omega (arith, count, c.loop-cell-test.true) }

has-room : (c : In-loop-cell) → length c.loop-cell.cells.items < vec_capacity c.loop-cell.cells
has-room c =
    let i = c.loop-cell.invariant in
    let one = one-of c in
    omega (arith, i.many, i.capacity, one.some, cells-room (length c.args.rows.now.columns) c.row_of_all-keys.result.now one.within, c.requires.room)

-- behind the last one
past : (c : After-loop-cell)
    → length (all_keys (length c.args.rows.now.columns) (row_at (all_rows c.args.format.now.format) c.args.row.keys)) ≤ c.loop-cell.cell
past c =
    let count = rw (c.columns.ensures, c.row_of_all-keys.ensures.keys) at c.cell_count-count.ensures in
    let many = keys-many (length c.args.rows.now.columns) (row_at (all_rows c.args.format.now.format) c.args.row.keys) in
    omega (arith, many, count, c.loop-cell-test.false)

pub key_of-key-requires-clause-end : goal.key_of-key-requires-clause-end
key_of-key-requires-clause-end c =
    let one = one-of (goal.at.key_of-key-requires-clause-end c).In-loop-cell in
    let end = cell-within c.row_of_all-keys.result.now (length c.args.rows.now.columns) c.loop-cell.cell one.within.cells one.within.short one.some in
    omega (arith, end.1, c.requires.small)

pub push_reserved-requires : goal.push_reserved-requires
push_reserved-requires c = omega (arith, c.loop-cell.cells.ok.0, has-room (goal.at.push_reserved-requires c).In-loop-cell)

pub push_reserved-requires-else-goes_on : goal.push_reserved-requires-else-goes_on
push_reserved-requires-else-goes_on c =
    omega (arith, c.loop-cell.cells.ok.0, has-room (goal.at.push_reserved-requires-else-goes_on c).In-loop-cell)

pub loop-cell-preserved : goal.loop-cell-preserved
loop-cell-preserved c =
    let i = c.loop-cell.invariant in
    let formats = all_rows c.args.format.now.format in
    let elements = c.args.rows.now.elements in
    let n = length c.args.rows.now.columns in
    let lent = c.row_of_all-keys.result.now in
    let cell = c.loop-cell.cell in
    let row = element_at elements c.args.row.at in
    let es = drop (suc c.args.row.at) elements in
    let format = row_at formats c.args.row.keys in
    let keys = all_keys n format in
    let key = c.key_of-key.result in
    let old = c.loop-cell.cells in
    let some = (one-of (goal.at.loop-cell-preserved c).In-loop-cell).some in
    let is : IsKeyAt key cell keys
    = key-lent formats c.args.row.keys n c.bars_of_all-last_bars.result cell lent key c.row_of_all-keys.ensures.keys
    c.bars_of_all-last_bars.ensures (c.key_of-key.ensures n some) in
    let letter = letter-at n format cell key is in
    let kept : List ℕ → List FormatKey → List Left → Left = λ bytes above lefts. cell_kept bytes formats c.args.is_inside above lefts row es cell key in
    let Stands : CellLeft → Type 0 = λ x. (bytes : List ℕ) (above : List FormatKey) (lefts : List Left) → ElementLaid bytes formats n row
    → RowAbove formats elements c.args.row.above above → AllLeft bytes c.args.cells_above.now lefts → IsLeft bytes x (kept bytes above lefts) in
    let Few : CellLeft → Type 0 = λ x. (most : ℕ) → AllByRecursion (λ (y : CellLeft). y.rows < most) c.args.cells_above.now → x.rows ≤ most in
    let next : OneMore Stands Few key old.items (vec_capacity old) c.if-goes_on.cells.items (vec_capacity c.if-goes_on.cells) = elim c.if-goes_on.branch [
      | then-goes_on w ↦
          subst (λ cells. OneMore Stands Few key old.items (vec_capacity old) cells.items (vec_capacity cells)) (sym w.cells-is) (record {
            cell = w.cell_of-left.result;
            items = w.push_reserved.ensures.items;
            capacity = w.push_reserved.ensures.capacity;
            stands = λ bytes above lefts laid there all. w.cell_of-left.ensures.left bytes above lefts laid there all letter;
            key = w.cell_of-left.ensures.key;
            few = w.cell_of-left.ensures.come;
          })
      | else-goes_on w ↦
          let not : goes_on (field_kept formats cell row).kind ≡ false
          = ap (λ (e : Entry). goes_on e.kind) (sym c.field_of-field.ensures) ∙ sym c.goes_on.ensures ∙ w.if-goes_on.false in
          subst (λ cells. OneMore Stands Few key old.items (vec_capacity old) cells.items (vec_capacity cells)) (sym w.cells-is) (record {
            cell = w.begun-begun.result;
            items = w.push_reserved-else-goes_on.ensures.items;
            capacity = w.push_reserved-else-goes_on.ensures.capacity;
            stands = λ bytes above lefts laid there all.
                let new = begun_kept bytes formats c.args.is_inside row es cell key in
                subst (λ (l : Left). IsLeft bytes w.begun-begun.result l)
                (sym (ap (λ (o : Option ℕ). cell_by o lefts new) (none-above bytes formats above row cell not)))
                (w.begun-begun.ensures.left bytes laid letter);
            key = w.begun-begun.ensures.key;
            few = λ most all. omega (arith, w.begun-begun.ensures.rows);
          })
    ] in
    let new = next.cell in
    record {
      left = λ bytes above lefts laid there all more rest.
          let f = cell_kept bytes formats c.args.is_inside above lefts row es in
          rw next.items
          (next-left bytes f keys (cells_by f 0 keys) old.items cell new key
          (i.left bytes above lefts laid there all) is (next.stands bytes above lefts laid there all) more rest);
      keys = λ more rest. rw next.items (next-key keys old.items cell new key i.keys is next.key more rest);
      come = λ most all. rw next.items
          (all-next (λ (x : CellLeft). x.rows ≤ most) old.items new (i.come most all) (next.few most all));
      many = rw next.items (omega (arith, i.many, length-append old.items (new ∷ [])));
      capacity = next.capacity ∙ i.capacity;
    }

pub returns-clause-left : goal.returns-clause-left
returns-clause-left c = λ bytes above lefts laid there all.
    let formats = all_rows c.args.format.now.format in
    let keys = all_keys (length c.args.rows.now.columns) (row_at formats c.args.row.keys) in
    let es = drop (suc c.args.row.at) c.args.rows.now.elements in
    let f = cell_kept bytes formats c.args.is_inside above lefts (element_at c.args.rows.now.elements c.args.row.at) es in
    end-left bytes f keys (cells_by f 0 keys) _ _ (c.loop-cell.invariant.left bytes above lefts laid there all) (past c)

pub returns-clause-keys : goal.returns-clause-keys
returns-clause-keys c = end-key _ _ _ c.loop-cell.invariant.keys (past c)
