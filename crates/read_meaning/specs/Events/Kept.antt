-- What the code keeps of the events of a request.
use Rattle.std.specs.Prelude.{List}
use Rattle.read_meaning.specs.declared.events.RequestedEvents.TheInside.{Inside}
use Rattle.run_model.specs.PageEvents.{PageEvent}
use Rattle.read_meaning.specs.Events.{around_break, stops_or_few}

-- the events, in order
pub record Told : Type 0 where
  pub items : List PageEvent

-- what the fields keep: one in front of a break, if there is one, and behind it, if there is one, those of stops, or a few
abbrev pub told_by : Inside → Told
told_by e = record {
  items = around_break e.before e.breaks (stops_or_few e.sets_stops e.stops.items e.behind);
}
