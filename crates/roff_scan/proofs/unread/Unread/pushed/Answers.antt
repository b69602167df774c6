use Rattle.std.proofs.Common.{arith}
use Rattle.roff_scan.proofs.unread.Unread.pushed.Goals as goal

pub overflow_add-result : goal.overflow_add-result
overflow_add-result g c = omega (arith, c.byte_count.ensures.count, c.held.ensures.value, c.self.invariant.within.pushed, c.self.invariant.small)
