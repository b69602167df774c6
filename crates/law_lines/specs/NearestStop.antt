-- What leads to the nearest tab stop (manual, section 9.1), in columns.
use Rattle.std.specs.Prelude.{◌≡◌, ℕ, ◌+◌, ◌%◌, ◌<◌, List, [], ◌∷◌, Option, Some, None, if◌then◌else◌, ◌==◌}
use Rattle.page_model.specs.declared.stop.TabStop.{TabStop}
use Rattle.page_model.specs.declared.stop.StopKind.{StopKind}
use Rattle.page_model.specs.declared.stop.StopKind.TheVariants.{Left as AtLeft}
use Rattle.page_model.specs.TabStops.{TabStops, Way}

-- the kind of the stop that was set first, of some at a place; none where none of them stands there
abbrev pub first_at : List TabStop → ℕ → Option StopKind
first_at [] n = None
first_at (s ∷ stops) n = if s.column == n then Some s.kind else first_at stops n

-- the kind of the stop at a place, if one stands there
abbrev pub stop_at : TabStops → ℕ → Option StopKind
stop_at None n = if n % 8 == 0 then Some AtLeft else None
stop_at (Some stops) n = first_at stops n

-- a way leads from a place to the nearest stop beyond it: a stop of its kind stands where it leads, and none stands between
pub record IsNearest (stops : TabStops) (place : ℕ) (way : Way) : Type 0 where
  pub beyond : 0 < way.columns
  pub to_stop : stop_at stops (place + way.columns) ≡ Some way.kind
  pub nearest : (n : ℕ) → place < n → n < place + way.columns → stop_at stops n ≡ None

-- what leads there: such a way, and none where no stop stands beyond the place
abbrev pub LeadsToNearest : TabStops → ℕ → Option Way → Type 0
LeadsToNearest stops place None = (n : ℕ) → place < n → stop_at stops n ≡ None
LeadsToNearest stops place (Some way) = IsNearest stops place way
