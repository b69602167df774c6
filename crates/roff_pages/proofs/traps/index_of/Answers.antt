use Rattle.std.proofs.Common.{arith}
use Rattle.roff_pages.specs.Pages.FirstTraps.{is_sought}
use Rattle.roff_pages.proofs.FirstTraps.{first_in_rest}
use Rattle.roff_pages.proofs.traps.index_of.Goals as goal

pub loop-trap-init : goal.loop-trap-init
loop-trap-init c =
    let left = first_in_rest (is_sought c.args.sought) c.args.traps.now c.from_sought-rest.result.now c.from_sought-rest.ensures in
    record {
      found = omega (arith, left.0, left.1);
      passed = omega (arith, left.0);
    }
