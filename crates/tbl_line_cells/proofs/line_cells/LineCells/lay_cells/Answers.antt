use Rattle.std.proofs.Common.{rules, ◌≡◌, ℕ, suc, ◌+◌, ◌-◌, ◌<◌, List, [], ◌∷◌, ◌++◌, drop, length, take, sym, ap, subst, ◌∙◌, arith}
use Rattle.tbl_layout.specs.Spans.{cells_of}
use Rattle.tbl_layout.specs.declared.columns.Column.{Column}
use Rattle.tbl_lines.specs.LinesLeft.{between, row_shown}
use Rattle.tbl_line_cells.specs.LinesDrawn.{SoFar, kept_line, keys_in}
use Rattle.tbl_line_cells.proofs.CellsInColumns.{few-cells, first-column, next-column, no_cell}
use Rattle.tbl_line_cells.proofs.RowLaid.{many-left, row-all, row-next, two-at}
use Rattle.tbl_line_cells.proofs.line_cells.LineCells.lay_cells.Goals as goal

pub as_one-column-requires-clause-within : goal.as_one-column-requires-clause-within
as_one-column-requires-clause-within c =
    (first-column c.args.cells.now c.args.columns.now no_cell c.requires.within c.requires.some).within

pub as_one-next-requires-clause-order : goal.as_one-next-requires-clause-order
as_one-next-requires-clause-order c =
    let at = c.loop-at.at in
    (next-column c.args.cells.now c.args.columns.now no_cell c.requires.within at (at + 1) (omega arith) (omega (arith, c.loop-at-test.true))).order

pub as_one-next-requires-clause-within : goal.as_one-next-requires-clause-within
as_one-next-requires-clause-within c =
    let at = c.loop-at.at in
    (next-column c.args.cells.now c.args.columns.now no_cell c.requires.within at (at + 1) (omega arith) (omega (arith, c.loop-at-test.true))).within

pub lay_between-requires-clause-room : goal.lay_between-requires-clause-room
lay_between-requires-clause-room c =
    let going = c.loop-at.invariant in
    omega (
      arith,
      going.count,
      going.capacity,
      c.requires.room.cells,
      c.loop-at-test.true,
      few-cells c.args.cells.now c.args.columns.now no_cell c.requires.within,
    )

pub lay_between-requires-clause-room_fronts : goal.lay_between-requires-clause-room_fronts
lay_between-requires-clause-room_fronts c =
    let going = c.loop-at.invariant in
    omega (
      arith,
      going.count_fronts,
      going.capacity_fronts,
      c.requires.room.fronts,
      c.loop-at-test.true,
      few-cells c.args.cells.now c.args.columns.now no_cell c.requires.within,
    )

pub loop-at-preserved : goal.loop-at-preserved
loop-at-preserved c =
    let at = c.loop-at.at in
    let cells = c.args.cells.now in
    let columns = c.args.columns.now in
    let all = cells_of (keys_in cells) columns in
    let going = c.loop-at.invariant in
    let few : at + 1 < length cells = omega (arith, c.loop-at-test.true) in
    let one : at + 1 ≡ suc at = omega arith in
    let beside = next-column cells columns no_cell c.requires.within at (at + 1) one few in
    let next : drop (at + 1) all ≡ c.as_one-next.result ∷ drop (suc (at + 1)) all
    = beside.is ∙ ap (λ (x : Column). x ∷ drop (suc (at + 1)) all) (sym c.as_one-next.ensures.value) in
    let both : drop at all ≡ c.loop-at.column ∷ c.as_one-next.result ∷ drop (suc (at + 1)) all
    = going.column
    ∙ ap (λ (i : ℕ). c.loop-at.column ∷ drop i all) (sym one)
    ∙ ap (λ (xs : List Column). c.loop-at.column ∷ xs) next in
    let laid = c.lay_between.ensures in
    record {
      line = search rules;
      column = next;
      narrow = c.as_one-next.ensures.narrow;
      so_far = λ bytes lefts fronts left so_far.
          let two = two-at bytes at (at + 1) cells lefts no_cell left one few in
          let row = row_shown c.args.boxing lefts all in
          row-next c.args.boxing bytes (kept_line c.lay_between.new.self) fronts lefts all at (at + 1) one two.l two.m two.rest c.loop-at.column
          c.as_one-next.result (drop (suc (at + 1)) all) two.are both
          (laid.so_far bytes two.l two.m (take at row) (fronts ++ take at (between c.args.boxing lefts all)) two.first two.next
          (going.so_far bytes lefts fronts left so_far));
      count = omega (arith, laid.count, going.count);
      count_fronts = omega (arith, laid.count_fronts, going.count_fronts);
      capacity = laid.capacity ∙ going.capacity;
      capacity_fronts = laid.capacity_fronts ∙ going.capacity_fronts;
    }

pub returns-clause-so_far : goal.returns-clause-so_far
returns-clause-so_far c = λ bytes lefts fronts left so_far.
    let cells = c.args.cells.now in
    let n = length cells - 1 in
    let all = cells_of (keys_in cells) c.args.columns.now in
    let at : c.loop-at.at ≡ n = omega (arith, c.loop-at-test.false, c.loop-at.invariant.count, c.loop-at.auto.at-end) in
    row-all c.args.boxing bytes (kept_line c.loop-at.self) fronts lefts all n (omega (arith, many-left bytes cells lefts left))
    (subst (λ (i : ℕ). SoFar bytes (kept_line c.loop-at.self) (take i (row_shown c.args.boxing lefts all))
    (fronts ++ take i (between c.args.boxing lefts all))) at (c.loop-at.invariant.so_far bytes lefts fronts left so_far))
