use Rattle.std.proofs.Common.{length}
use Rattle.page_model.specs.Turning.{is_given}
use Rattle.roff_pages.specs.Pages.FirstTraps.{NoneBefore}
use Rattle.roff_pages.proofs.traps.from_given.Given as goal

abbrev pub invariant-loop-front : goal.invariant-loop-front
invariant-loop-front l = NoneBefore (is_given l.place) l.traps l.rest

abbrev pub decreases-loop-front : goal.decreases-loop-front
decreases-loop-front l = length l.rest
