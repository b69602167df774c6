use Rattle.std.proofs.Common.{◌≡◌, length}
use Rattle.page_model.specs.Springs.{first_met, is_passed}
use Rattle.roff_pages.proofs.traps.first_passed.Given as goal

abbrev pub invariant-loop-trap : goal.invariant-loop-trap
invariant-loop-trap l = first_met (is_passed l.from l.to) l.length l.rest ≡ first_met (is_passed l.from l.to) l.length l.traps

abbrev pub decreases-loop-trap : goal.decreases-loop-trap
decreases-loop-trap l = length l.rest
