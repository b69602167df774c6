use Rattle.std.proofs.Common.{◌≡◌, length}
use Rattle.page_model.specs.Springs.{first_met, is_on_top}
use Rattle.roff_pages.proofs.traps.first_on_top.Given as goal

abbrev pub invariant-loop-trap : goal.invariant-loop-trap
invariant-loop-trap l = first_met is_on_top l.length l.rest ≡ first_met is_on_top l.length l.traps

abbrev pub decreases-loop-trap : goal.decreases-loop-trap
decreases-loop-trap l = length l.rest
