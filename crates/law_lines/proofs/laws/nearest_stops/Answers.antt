use Rattle.std.specs.Prelude.{refl}
use Rattle.law_lines.proofs.NearestStop.{leads_to_nearest, way_to_next-same, way_to_next-swapped}
use Rattle.law_lines.proofs.laws.nearest_stops.Goals as goal

pub returns-clause-leads : goal.returns-clause-leads
returns-clause-leads c = leads_to_nearest

pub returns-clause-width : goal.returns-clause-width
returns-clause-width c h = refl

pub returns-clause-any_order : goal.returns-clause-any_order
returns-clause-any_order c = way_to_next-same

pub returns-clause-swapped : goal.returns-clause-swapped
returns-clause-swapped c s t front behind place other = way_to_next-swapped s t behind other front place
