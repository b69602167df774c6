use Rattle.std.proofs.Common.{◌≡◌, ◌<◌, ◌-◌, ℕ, suc, drop, length, set, ap, subst, ◌∙◌, arith, length-set, if◌then◌else◌}
use Rattle.tbl_format.proofs.CellColumns.{cell-within, columns_of-behind}
use Rattle.tbl_format.specs.Cells.{cell_count}
use Rattle.tbl_format.specs.RowsServed.{all_rows}
use Rattle.tbl_kept.proofs.HeightSteps.{cells-room}
use Rattle.tbl_kept.specs.Rows.{elements_of}
use Rattle.tbl_kept.specs.RowsLaying.{element_at}
use Rattle.tbl_lines.specs.CellsLeft.{all_keys, stopped}
use Rattle.tbl_line_cells.specs.KeptCells.{IsLeft}
use Rattle.tbl_tall.proofs.CellsNext.{keys-many}
use Rattle.tbl_tall.proofs.KeysCover.{all-cells, all-columns}
use Rattle.tbl_tall.proofs.StopsBelow.{kept-end, lies-within}
use Rattle.tbl_tall.proofs.StopsSet.{all-same, few-by, first-end, first-next, has-many, same-come, same-keys, same-many, same-of, same-set, start-few, stops-next, stops-none}
use Rattle.tbl_tall.proofs.stops.set_stops.Goals as goal
use Rattle.tbl_tall.specs.StopsKept.{format_kept, is_used_at, start_in}

pub loop-at-init : goal.loop-at-init
loop-at-init c =
    let cells = c.args.cells.now in
    let n = length c.args.rows.now.columns in
    let formats = all_rows c.args.format.now.format in
    let e = element_at c.args.rows.now.elements c.args.element in
    let es = drop (suc c.args.element) c.args.rows.now.elements in
    record {
      left = λ bytes lefts laid all. stops-none bytes n (format_kept formats e).keys (elements_of bytes formats es) cells lefts 0 all;
      first = λ bytes lefts all. ap length c.columns-next.ensures ∙ first-end bytes n 0 cells lefts all;
      same = all-same cells;
      few = omega (arith, ap length c.columns-next.ensures);
      within = omega arith;
    }

pub set_stop-requires : goal.set_stop-requires
set_stop-requires c =
    let n = length c.args.rows.now.columns in
    let at = c.loop-at.at - 1 in
    let formats = all_rows c.args.format.now.format in
    let e = element_at c.args.rows.now.elements c.args.element in
    let format = format_kept formats e in
    let within = lies-within formats c.args.rows.now c.args.element c.requires.at c.requires.lie in
    let many = has-many c.args.cells.now (all_keys n format) c.requires.keys ∙ keys-many n format in
    let some : at < cell_count format.keys n = omega (arith, c.loop-at.invariant.within, c.loop-at-test.true, many) in
    record {
      lie = c.requires.lie;
      at = c.requires.at;
      row = c.requires.row;
      small = c.requires.small;
      few = omega (arith, some, cells-room n format.keys within, c.requires.small);
      end = omega (arith, kept-end formats e at c.requires.row, (cell-within format.keys n at within.cells within.short some).1);
      next = c.loop-at.invariant.few;
    }

pub loop-at-preserved : goal.loop-at-preserved
loop-at-preserved c =
    let i = c.loop-at.invariant in
    let cells = c.loop-at.cells in
    let old = c.args.cells.now in
    let n = length c.args.rows.now.columns in
    let at = c.loop-at.at - 1 in
    let new = c.set_stop.new.cell in
    let now = set cells at new in
    let formats = all_rows c.args.format.now.format in
    let e = element_at c.args.rows.now.elements c.args.element in
    let es = drop (suc c.args.element) c.args.rows.now.elements in
    let format = format_kept formats e in
    let names = format.keys in
    let within = lies-within formats c.args.rows.now c.args.element c.requires.at c.requires.lie in
    let next : c.loop-at.at ≡ suc at = omega (arith, c.loop-at-test.true) in
    let some : at < length cells = omega (arith, c.loop-at-test.true, i.within, same-many cells old i.same) in
    let some_now : at < length now = omega (arith, some, length-set cells at new) in
    let same = same-set cells old at _ new some (same-of new _ c.set_stop.ensures.same) i.same in
    record {
      left = λ bytes lefts laid all.
          let elements = elements_of bytes formats es in
          stops-next bytes n names elements cells lefts at 0 0 c.loop-at.next _ new some
          (λ m l others here left first.
          let same_cell : at ≡ m = omega (arith, here) in
          subst (λ (k : ℕ). IsLeft bytes new (stopped n names elements k l others)) same_cell
          (c.set_stop.ensures.left bytes l others laid left first))
          ((rw next at i.first) bytes lefts all) ((rw next at i.left) bytes lefts laid all);
      first = λ bytes lefts all.
          c.first_from-next.ensures
          ∙ ap (λ (m : ℕ). if is_used_at now at then start_in now at else m)
          ((rw next at i.first) bytes lefts all)
          ∙ first-next bytes n 0 now old lefts at some_now all same;
      same = same;
      few =
          let keys = all_keys n format in
          let covered = columns_of-behind keys in
          let all = all-columns n format within in
          let begin = start-few 0 now keys at (same-keys now old keys same c.requires.keys) (all-cells n format within) in
          let limit = few-by (is_used_at now at) (start_in now at) c.loop-at.next n (omega (arith, begin, covered, all)) i.few in
          omega (arith, c.first_from-next.ensures, limit);
      within = omega (arith, i.within);
    }

pub returns-clause-left : goal.returns-clause-left
returns-clause-left c = λ bytes lefts laid all.
    let none : c.loop-at.at ≡ 0 = omega (arith, c.loop-at-test.false) in
    (rw none at c.loop-at.invariant.left) bytes lefts laid all

pub returns-clause-keys : goal.returns-clause-keys
returns-clause-keys c = λ keys has. same-keys c.loop-at.cells c.args.cells.now keys c.loop-at.invariant.same has

pub returns-clause-come : goal.returns-clause-come
returns-clause-come c = λ n come. same-come c.loop-at.cells c.args.cells.now n c.loop-at.invariant.same come
