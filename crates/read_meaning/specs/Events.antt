-- The events of a request, as the code puts them together.
use Rattle.std.specs.Prelude.{◌≡◌, ℕ, Bool, false, ◌&&◌, List, [], ◌∷◌, ◌++◌, map, is_none, Option, if◌then◌else◌}
use Rattle.std.specs.Option.{option_to_list}
use Rattle.page_model.specs.declared.event.Event.TheVariants.{Set}
use Rattle.page_model.specs.declared.settings.Param.TheVariants.{NoStops}
use Rattle.page_model.specs.declared.stop.TabStop.{TabStop}
use Rattle.page_model.specs.TabStops.{stop_param}
use Rattle.run_model.specs.PageEvents.{PageEvent}
use Rattle.run_model.specs.declared.event.PageEvent.TheVariants.{Text}
use Rattle.read_meaning.specs.declared.events.RequestEvents.{RequestEvents}
use Rattle.read_meaning.specs.declared.events.RequestEvents.TheVariants.{Nothing, One, Two}
use Rattle.run_model.specs.Requests.Effects.{behind_break}
pub mod Kept

-- the event of a stop
abbrev pub stop_at : TabStop → PageEvent
stop_at stop = Text (Set (stop_param stop))

-- these stops are set in place of those in force
abbrev pub stops_set : List TabStop → List PageEvent
stops_set stops = Text (Set NoStops) ∷ map stop_at stops

-- the events of a request behind its break, in order
abbrev pub request_events : RequestEvents → List PageEvent
request_events Nothing = []
request_events (One event) = event ∷ []
request_events (Two first second) = first ∷ second ∷ []

-- those of tab stops, if they are set, or a few
abbrev pub stops_or_few : Bool → List TabStop → RequestEvents → List PageEvent
stops_or_few sets_stops stops few = if sets_stops then stops_set stops else request_events few

-- one in front of a break, if there is one, those of the break, if there is one, and others behind it
abbrev pub around_break : Option PageEvent → Bool → List PageEvent → List PageEvent
around_break before breaks behind = option_to_list before ++ behind_break breaks behind

-- these are a request's, and don't begin with those of a break: one stands in front of it, or there is none
pub record BreakNotFirst (events : List PageEvent) : Type 0 where
  pub before : Option PageEvent
  pub breaks : Bool
  pub sets_stops : Bool
  pub stops : List TabStop
  pub few : RequestEvents
  pub not_first : (is_none before && breaks) ≡ false
  pub are : events ≡ around_break before breaks (stops_or_few sets_stops stops few)
