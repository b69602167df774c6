use Rattle.std.proofs.Common.{sym}
use Rattle.tbl_core.proofs.Passing.{over-all}
use Rattle.tbl_core.proofs.tables.passing.front_over.Goals as goal

pub returns-then-is_other : goal.returns-then-is_other
returns-then-is_other c =
    let l = c.loop-count in
    over-all c.args.bytes.now _ l.front l.count (sym c.if-is_other.ensures) l.invariant.stays l.invariant.so_far
