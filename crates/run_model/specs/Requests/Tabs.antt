-- Tab stops (manual, section 9).
use Rattle.std.specs.Prelude.{ℕ, ◌/◌, ℤ, pos, ◌+ℤ◌, ◌==◌, if◌then◌else◌, List, [], ◌∷◌, drop, map, take, Result, Ok, Err, Some}
use Rattle.page_model.specs.declared.event.Event.TheVariants.{Set}
use Rattle.page_model.specs.declared.settings.Param.TheVariants.{NoStops}
use Rattle.page_model.specs.declared.stop.StopKind.{StopKind}
use Rattle.page_model.specs.declared.stop.StopKind.TheVariants.{Left as AtLeft, Right as AtRight, Centred as InMiddle}
use Rattle.page_model.specs.TabStops.{stop_param}
use Rattle.roff_num.specs.Expressions.{value_at}
use Rattle.roff_num.specs.Ranges.{in_range}
use Rattle.roff_num.specs.Steps.{followed}
use Rattle.roff_num.specs.declared.num.NumFault.{NumFault}
use Rattle.roff_num.specs.declared.num.Scale.TheVariants.{Columns}
use Rattle.run_model.specs.Numbers.{value_in, rounded_in_range, at_least_zero}
use Rattle.run_model.specs.PageEvents.{PageEvent}
use Rattle.run_model.specs.declared.event.PageEvent.TheVariants.{Text}
use Rattle.run_model.specs.Requests.Effects.{Response, happens, bad_number}

-- of more stops than this the others are ignored
abbrev pub most_stops : ℕ
most_stops = 32

-- where a stop lies, in basic units before it is rounded: behind a `+` it counts from the one before
abbrev pub stop_place : ℤ → List ℕ → Result ℤ NumFault
stop_place before [] = value_in Columns []
stop_place before (b ∷ text) =
    if b == 43 then followed (value_in Columns text) (λ v. in_range (before +ℤ v)) else value_in Columns (b ∷ text)

-- what stands behind the expression that a text begins with
abbrev pub behind_expression : List ℕ → List ℕ
behind_expression text = elim (value_at text 0 Columns (Some (pos 0))) [ Err fault ↦ [] | Ok r ↦ drop r.1 text ]

-- the kind of a stop behind whose expression this stands: `R` and `C` say it, and another byte is nothing
abbrev pub kind_by : List ℕ → StopKind
kind_by [] = AtLeft
kind_by (b ∷ text) = if b == 82 then AtRight else if b == 67 then InMiddle else AtLeft

-- the kind of a stop: the expression stands behind a `+`, if there is one
abbrev pub stop_kind : List ℕ → StopKind
stop_kind [] = AtLeft
stop_kind (b ∷ text) = kind_by (behind_expression (if b == 43 then text else b ∷ text))

-- where stops lie, one after another, in basic units, and of which kind they are
abbrev pub stop_places : ℤ → List (List ℕ) → Result (List (ℤ × StopKind)) NumFault
stop_places before [] = Ok []
stop_places before (text ∷ others) =
    followed (followed (stop_place before text) (rounded_in_range 24)) (λ stop.
    followed (stop_places stop others) (λ stops. Ok ((stop, stop_kind text) ∷ stops)))

-- the event of a stop; one below 0 lies at the line's beginning, as it is behind no place
abbrev pub stop_set : ℤ × StopKind → PageEvent
stop_set stop = Text (Set (stop_param (record { column = at_least_zero stop.0 / 24; kind = stop.1 })))

-- these stops are set in place of those in force
abbrev pub setting_stops : Result (List (ℤ × StopKind)) NumFault → Response
setting_stops (Ok stops) = happens [] (Text (Set NoStops) ∷ map stop_set stops)
setting_stops (Err fault) = bad_number

-- `ta`: no stops where none are given
abbrev pub tab_stops : List (List ℕ) → Response
tab_stops as_given = setting_stops (stop_places (pos 0) (take most_stops as_given))
