use Rattle.std.specs.Prelude.{take}
use Rattle.input_arguments.specs.ArgumentList.{listed}
use Rattle.run_model.specs.Requests.Tabs.{most_stops}
use Rattle.read_requests.proofs.TabStops.{ReadSoFar}
use Rattle.read_requests.proofs.requests.tabs.tab_stops.Given as goal

abbrev pub invariant-loop-index : goal.invariant-loop-index
invariant-loop-index l = ReadSoFar (take most_stops (listed l.given)) l.index l.before l.stops.items
