use Rattle.std.proofs.Common.{◌≡◌, length}
use Rattle.std.specs.List.{list_any}
use Rattle.page_model.specs.Turning.{is_in_range}
use Rattle.roff_pages.proofs.pages.turning.is_in_ranges.Given as goal

abbrev pub invariant-loop-range : goal.invariant-loop-range
invariant-loop-range l = list_any (is_in_range l.number) l.rest ≡ list_any (is_in_range l.number) l.ranges

abbrev pub decreases-loop-range : goal.decreases-loop-range
decreases-loop-range l = length l.rest
