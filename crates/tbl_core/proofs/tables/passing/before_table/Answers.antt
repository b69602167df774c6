use Rattle.std.proofs.Common.{sym}
use Rattle.tbl_core.proofs.Passing.{before-all}
use Rattle.tbl_core.proofs.tables.passing.before_table.Goals as goal

pub returns-then-is_other : goal.returns-then-is_other
returns-then-is_other c =
    let l = c.loop-count in
    before-all c.args.line.now _ l.front l.count (sym c.if-is_other.ensures) l.invariant.within l.invariant.so_far
