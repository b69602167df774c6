use Rattle.std.proofs.Common.{◌≡◌, length, ◌||◌}
use Rattle.std.specs.List.{list_any}
use Rattle.page_model.specs.Turning.{is_given}
use Rattle.roff_pages.proofs.traps.is_any_given.Given as goal

abbrev pub invariant-loop-trap : goal.invariant-loop-trap
invariant-loop-trap l = (l.is_any || list_any (is_given l.place) l.rest) ≡ list_any (is_given l.place) l.traps

abbrev pub decreases-loop-trap : goal.decreases-loop-trap
decreases-loop-trap l = length l.rest
