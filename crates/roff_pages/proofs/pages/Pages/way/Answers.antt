use Rattle.std.proofs.Common.{arith}
use Rattle.roff_pages.proofs.NextStop.{next_stop_le}
use Rattle.roff_pages.proofs.pages.Pages.way.Goals as goal

pub returns-clause-most : goal.returns-clause-most
returns-clause-most c =
    let a = c.self.inside in
    omega (arith, c.self.invariant.stop, c.self.invariant.short, next_stop_le a.length a.place a.traps.items)
