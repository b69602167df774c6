-- What the table of tab stops keeps.
use Rattle.std.specs.Prelude.{◌≤◌, Some, None, if◌then◌else◌, vec_len, vec_capacity}
use Rattle.roff_lines.specs.declared.stops.StopTable.TheInside.{Inside}
use Rattle.page_model.specs.TabStops.{TabStops}

-- the stops that were set, if any were
abbrev pub stops_kept : Inside → TabStops
stops_kept a = if a.are_set then Some a.stops.items else None

-- room for 32 is reserved, and there are no more
pub record IsRoomy (a : Inside) : Type 0 where
  pub reserved : 32 ≤ vec_capacity a.stops
  pub within : vec_len a.stops ≤ 32
