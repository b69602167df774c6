use Rattle.std.proofs.Common.{◌≡◌, ℕ, ◌+◌, ◌-◌, ◌<◌, ◌≤◌, ◌++◌, List, [], ◌∷◌, drop, get_or, length, replicate, map, refl, sym, ap, subst, ◌∙◌, arith}
use Rattle.tbl_format.proofs.CellColumns.{columns_of-behind}
use Rattle.tbl_format.specs.Format.{columns_of_keys}
use Rattle.tbl_lines.specs.LinesLeft.{OfRow}
use Rattle.tbl_tall.specs.Bands.{ShowBars}
use Rattle.tbl_line_cells.specs.LinesDrawn.{keys_in}
use Rattle.tbl_line_cells.specs.KeptCells.{behind_rules}
use Rattle.tbl_line_cells.specs.declared.cells.CellLeft.{CellLeft}
use Rattle.tbl_tall.proofs.CellsNext.{drop-past}
use Rattle.tbl_tall.proofs.CellsSpread.{spread}
use Rattle.tbl_tall.proofs.CellsStep.{columns-step, end-few, many-shown, no_cell, order-here, push-room, spread-step, zeros-room}
use Rattle.tbl_tall.proofs.RowBars.{fronts_of, shown-all, shown-last}
use Rattle.tbl_tall.proofs.shown_bars.push_shown.Goals.{In-loop-at}
use Rattle.tbl_tall.proofs.shown_bars.push_shown.Goals as goal

pub loop-at-init : goal.loop-at-init
loop-at-init c = record {
  items = λ bytes lefts all.
      let f = fronts_of bytes c.args.boxing c.args.last_bars c.args.rules lefts in
      ap (λ (xs : List ℕ). xs ++ spread f 0 0 (keys_in c.args.cells.now)) c.requires.none;
  many = ap length c.requires.none;
  order = c.requires.cells;
  columns = sym (columns_of-behind (keys_in c.args.cells.now));
  capacity = refl;
}

-- a cell has some columns, which all cells have
columns : (c : In-loop-at) → let end = (get_or c.args.cells.now c.loop-at.at no_cell).key.end in
    (c.loop-at.column < end) × (end ≤ columns_of_keys (keys_in c.args.cells.now))
columns c =
    let i = c.loop-at.invariant in
    let cells = c.args.cells.now in
    let at = c.loop-at.at in
    let some = c.loop-at-test.true in
    ((order-here cells at some c.loop-at.column i.order).0, end-few cells at some c.loop-at.column (columns_of_keys (keys_in cells)) i.order i.columns)

pub push_reserved-requires : goal.push_reserved-requires
push_reserved-requires c =
    let few = columns (goal.at.push_reserved-requires c).In-loop-at in
    push-room c.loop-at.shown.ok.0 c.loop-at.invariant.many few.0 few.1 c.requires.room c.loop-at.invariant.capacity

pub push_nothing-requires : goal.push_nothing-requires
push_nothing-requires c =
    let few = columns (goal.at.push_nothing-requires c).In-loop-at in
    record {
      room = zeros-room c.loop-at.shown.items c.bars_before.result c.push_reserved.ensures.items c.loop-at.invariant.many few.0 few.1 c.requires.room
          c.loop-at.invariant.capacity c.push_reserved.ensures.capacity;
    }

pub loop-at-preserved : goal.loop-at-preserved
loop-at-preserved c =
    let i = c.loop-at.invariant in
    let cells = c.args.cells.now in
    let at = c.loop-at.at in
    let column = c.loop-at.column in
    let xs = c.loop-at.shown.items in
    let ys = c.push_nothing.new.bars.items in
    let v = c.bars_before.result in
    let some = c.loop-at-test.true in
    let cell : CellLeft = get_or cells at no_cell in
    let more = order-here cells at some column i.order in
    let pushed : ys ≡ (xs ++ v ∷ []) ++ replicate (cell.key.end - column - 1) 0
    = c.push_nothing.ensures.items ∙ ap (λ (zs : List ℕ). zs ++ replicate (cell.key.end - column - 1) 0) c.push_reserved.ensures.items in
    record {
      items = λ bytes lefts all.
          let f = fronts_of bytes c.args.boxing c.args.last_bars c.args.rules lefts in
          ap (λ (zs : List ℕ). zs ++ spread f (at + 1) cell.key.end (keys_in (drop (at + 1) cells))) pushed
          ∙ spread-step cells at some f xs v column (spread f 0 0 (keys_in cells)) (c.bars_before.ensures bytes lefts c.args.last_bars all)
          (i.items bytes lefts all);
      many = many-shown xs ys v column cell.key.end pushed i.many more.0;
      order = more.1;
      columns = columns-step cells at some column (columns_of_keys (keys_in cells)) i.columns;
      capacity = c.push_nothing.ensures.capacity ∙ c.push_reserved.ensures.capacity ∙ i.capacity;
    }

pub returns-clause-shown : goal.returns-clause-shown
returns-clause-shown c = λ bytes lefts all.
    let i = c.loop-at.invariant in
    let cells = c.args.cells.now in
    let at = c.loop-at.at in
    let column = c.loop-at.column in
    let xs = c.loop-at.shown.items in
    let boxing = c.args.boxing in
    let last = c.args.last_bars in
    let f = fronts_of bytes boxing last c.args.rules lefts in
    let none = drop-past cells at c.loop-at-test.false in
    let end : length cells ≡ at = omega (arith, c.loop-at-test.false, c.loop-at.auto.at-end) in
    let done : xs ++ spread f (length cells) column [] ≡ spread f 0 0 (keys_in cells)
    = ap (λ (n : ℕ). xs ++ spread f n column []) end
    ∙ sym (ap (λ (cs : List CellLeft). xs ++ spread f at column (keys_in cs)) none)
    ∙ i.items bytes lefts all in
    let items : c.push_reserved-2.new.self.items ≡ spread f 0 0 (keys_in cells)
    = c.push_reserved-2.ensures.items ∙ ap (λ (n : ℕ). xs ++ n ∷ []) c.edge_bars.ensures
    ∙ shown-last bytes boxing last c.args.rules cells lefts xs column all c.requires.some done in
    subst (λ (zs : List ℕ). ShowBars boxing (columns_of_keys (keys_in cells)) zs (OfRow (map (behind_rules c.args.rules) lefts) last)) (sym items)
    (shown-all bytes boxing last c.args.rules cells lefts all c.requires.cells)
