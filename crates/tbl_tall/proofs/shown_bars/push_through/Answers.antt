use Rattle.std.proofs.Common.{◌≡◌, ℕ, ◌+◌, ◌-◌, ◌++◌, List, drop, get_or, length, replicate, Option, refl, sym, ap, ◌∙◌, vec_capacity}
use Rattle.tbl_format.proofs.CellColumns.{columns_of-behind}
use Rattle.tbl_line_cells.specs.LinesDrawn.{keys_in}
use Rattle.tbl_tall.specs.ShownBars.{owner_of, owners}
use Rattle.tbl_line_cells.specs.declared.cells.CellLeft.{CellLeft}
use Rattle.tbl_format.specs.Format.{columns_of_keys}
use Rattle.tbl_tall.proofs.CellsStep.{columns-step, end-few, many-step, no_cell, order-here, owners-step, room-step}
use Rattle.tbl_tall.proofs.shown_bars.push_through.Goals as goal

pub loop-at-init : goal.loop-at-init
loop-at-init c = record {
  items = ap (λ (xs : List (Option ℕ)). xs ++ owners 0 0 c.args.cells.now) c.requires.none;
  many = ap length c.requires.none;
  order = c.requires.cells;
  columns = sym (columns_of-behind (keys_in c.args.cells.now));
  capacity = refl;
}

pub push_owner-requires : goal.push_owner-requires
push_owner-requires c =
    let i = c.loop-at.invariant in
    let cells = c.args.cells.now in
    let at = c.loop-at.at in
    let column = c.loop-at.column in
    let some = c.loop-at-test.true in
    let all = columns_of_keys (keys_in cells) in
    record {
      room = room-step (length c.loop-at.through.items) column (get_or cells at no_cell).key.end all (vec_capacity c.args.through.now)
          (vec_capacity c.loop-at.through) i.many (end-few cells at some column all i.order i.columns) c.requires.room i.capacity
          (order-here cells at some column i.order).0;
    }

pub loop-at-preserved : goal.loop-at-preserved
loop-at-preserved c =
    let i = c.loop-at.invariant in
    let cells = c.args.cells.now in
    let at = c.loop-at.at in
    let column = c.loop-at.column in
    let xs = c.loop-at.through.items in
    let ys = c.push_owner.new.through.items in
    let some = c.loop-at-test.true in
    let cell : CellLeft = get_or cells at no_cell in
    let more = order-here cells at some column i.order in
    let pushed : ys ≡ xs ++ replicate (cell.key.end - column) (owner_of at cell)
    = c.push_owner.ensures.items ∙ ap (λ (o : Option ℕ). xs ++ replicate (cell.key.end - column) o) c.owner_of.ensures in
    record {
      items = ap (λ (zs : List (Option ℕ)). zs ++ owners (at + 1) cell.key.end (drop (at + 1) cells)) pushed
          ∙ owners-step cells at some xs column (owners 0 0 cells) i.items;
      many = many-step xs ys (owner_of at cell) column cell.key.end pushed i.many more.0;
      order = more.1;
      columns = columns-step cells at some column (columns_of_keys (keys_in cells)) i.columns;
      capacity = c.push_owner.ensures.capacity ∙ i.capacity;
    }
