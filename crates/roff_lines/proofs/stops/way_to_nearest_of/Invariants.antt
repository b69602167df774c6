use Rattle.std.proofs.Common.{◌≡◌, length}
use Rattle.page_model.specs.TabStops.{way_to_nearest, shorter_way}
use Rattle.roff_lines.specs.StopTable.Ways.{way_of}
use Rattle.roff_lines.proofs.stops.way_to_nearest_of.Given as goal

abbrev pub invariant-loop-stop : goal.invariant-loop-stop
invariant-loop-stop l = shorter_way (way_of l.way) (way_to_nearest l.rest l.place) ≡ way_to_nearest l.stops l.place

abbrev pub decreases-loop-stop : goal.decreases-loop-stop
decreases-loop-stop l = length l.rest
