-- Tab stops (manual, section 9.1), in columns.
use Rattle.std.specs.Prelude.{ℕ, ◌-◌, ◌%◌, List, [], ◌∷◌, ◌++◌, length, nat_le, nat_lt, Option, Some, None, if◌then◌else◌}
use Rattle.page_model.specs.declared.settings.Param.{Param}
use Rattle.page_model.specs.declared.settings.Param.TheVariants.{NoStops, Stop, RightStop, CentredStop}
pub use Rattle.page_model.specs.declared.stop.TabStop.{TabStop}
pub use Rattle.page_model.specs.declared.stop.StopKind.{StopKind}
pub use Rattle.page_model.specs.declared.stop.StopKind.TheVariants.{Left as AtLeft, Right as AtRight, Centred as InMiddle}

-- the stops that were set, in the order given; where none were, they stand every eight columns
abbrev pub TabStops : Type 0
TabStops = Option (List TabStop)

-- some stops and one more, if there are fewer than 32
abbrev pub with_stop : TabStop → List TabStop → List TabStop
with_stop s stops = if nat_lt (length stops) 32 then stops ++ s ∷ [] else stops

-- the same, whether stops were set or not
abbrev pub with_stop_set : TabStop → TabStops → TabStops
with_stop_set s None = Some (s ∷ [])
with_stop_set s (Some stops) = Some (with_stop s stops)

-- the stops behind a change
abbrev pub stops_with : Param → TabStops → TabStops
stops_with NoStops stops = Some []
stops_with (Stop n) stops = with_stop_set (record { column = n; kind = AtLeft }) stops
stops_with (RightStop n) stops = with_stop_set (record { column = n; kind = AtRight }) stops
stops_with (CentredStop n) stops = with_stop_set (record { column = n; kind = InMiddle }) stops
stops_with (_) stops = stops

-- the change that sets one more
abbrev pub stop_param : TabStop → Param
stop_param s = elim s.kind [ AtLeft ↦ Stop s.column | AtRight ↦ RightStop s.column | InMiddle ↦ CentredStop s.column ]

-- the columns from a place to a stop beyond it, and the stop's kind
pub record Way : Type 0 where
  pub columns : ℕ
  pub kind : StopKind

-- the way from a place to a stop, if that is beyond it
abbrev pub way_beyond : ℕ → TabStop → Option Way
way_beyond place s = if nat_lt place s.column then Some (record { columns = s.column - place; kind = s.kind }) else None

-- the shorter of two ways, and of two that are as long the first
abbrev pub shorter_way : Option Way → Option Way → Option Way
shorter_way None other = other
shorter_way (Some one) None = Some one
shorter_way (Some one) (Some other) = if nat_le one.columns other.columns then Some one else Some other

-- the way from a place to the nearest of some stops beyond it; none where none is beyond
abbrev pub way_to_nearest : List TabStop → ℕ → Option Way
way_to_nearest [] place = None
way_to_nearest (s ∷ stops) place = shorter_way (way_beyond place s) (way_to_nearest stops place)

-- the way from a place to the next stop
abbrev pub way_to_next : TabStops → ℕ → Option Way
way_to_next None place = Some (record { columns = 8 - place % 8; kind = AtLeft })
way_to_next (Some stops) place = way_to_nearest stops place

-- its columns; none where there is no stop
abbrev pub columns_of_way : Option Way → ℕ
columns_of_way None = 0
columns_of_way (Some way) = way.columns

-- the columns from a place to the next stop
abbrev pub way_to_stop : TabStops → ℕ → ℕ
way_to_stop stops place = columns_of_way (way_to_next stops place)
