-- Ways to tab stops, as they are told.
use Rattle.std.specs.Prelude.{Option, Some, None, if◌then◌else◌, ◌==◌}
use Rattle.page_model.specs.TabStops as tab_stops
use Rattle.roff_lines.specs.declared.stops.Way.{Way}

-- the way that was told, if one was
abbrev pub way_told : Option Way → Option tab_stops.Way
way_told None = None
way_told (Some way) = Some (record { columns = way.columns; kind = way.kind })

-- a way as it is told; none of no columns
abbrev pub way_of : Way → Option tab_stops.Way
way_of way = if way.columns == 0 then None else Some (record { columns = way.columns; kind = way.kind })
