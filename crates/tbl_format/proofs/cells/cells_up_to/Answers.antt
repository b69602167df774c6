use Rattle.std.proofs.Common.{◌+◌, ◌-◌, ◌/◌, arith}
use Rattle.tbl_format.proofs.CellsBehind.{start_of-rises}
use Rattle.tbl_format.proofs.cells.cells_up_to.Goals as goal

pub loop-low-preserved-then-start_of-column : goal.loop-low-preserved-then-start_of-column
loop-low-preserved-then-start_of-column c =
    let old = c.loop-low.invariant in
    let keys = c.args.keys.now in
    let middle = c.loop-low.low + (c.loop-low.high - c.loop-low.low) / 2 in
    record {
      order = omega (arith, c.loop-low-test.true);
      within = old.within;
      before = λ cell less. omega (arith, start_of-rises keys cell middle c.requires (omega (arith, less)), c.start_of.ensures, c.if-start_of-column.true);
      behind = old.behind;
    }

pub loop-low-preserved : goal.loop-low-preserved
loop-low-preserved c =
    let old = c.loop-low.invariant in
    let keys = c.args.keys.now in
    let middle = c.loop-low.low + (c.loop-low.high - c.loop-low.low) / 2 in
    record {
      order = omega arith;
      within = omega (arith, c.loop-low-test.true, old.within);
      before = old.before;
      behind = λ cell from some. omega (arith, start_of-rises keys middle cell c.requires from, c.start_of.ensures, c.if-start_of-column.false);
    }
