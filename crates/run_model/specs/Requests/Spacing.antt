-- Blank lines, lines that are needed, no-space mode, and the spacing of lines (manual, sections 3 and 5).
use Rattle.std.specs.Prelude.{ℕ, ◌/◌, Bool, ℤ, pos, negsuc, List, [], ◌∷◌, max, Result, Ok, Err}
use Rattle.page_model.specs.declared.settings.Param.TheVariants.{Spacing}
use Rattle.roff_num.specs.Steps.{followed}
use Rattle.roff_num.specs.declared.num.NumFault.{NumFault}
use Rattle.roff_num.specs.declared.num.Scale.TheVariants.{Units}
use Rattle.run_model.specs.Numbers.{height_in, value_in, rounded_in_range, at_least_zero}
use Rattle.run_model.specs.Registers.{Known, place_down}
use Rattle.page_model.specs.declared.layout_event.LayoutEvent.TheVariants.{Need, NoSpace, Space}
use Rattle.run_model.specs.declared.event.PageEvent.TheVariants.{Page}
use Rattle.run_model.specs.declared.message.Message.TheVariants.{BackwardMotion}
use Rattle.run_model.specs.Requests.Effects.{Response, happens, setting, bad_number}

-- the blank lines of a height in basic units: none if it is below 0, which is reported
abbrev pub spaced : Result ℤ NumFault → Response
spaced (Ok (pos height)) = happens [] (Page (Space (height / 40)) ∷ [])
spaced (Ok (negsuc height)) = happens (BackwardMotion ∷ []) (Page (Space 0) ∷ [])
spaced (Err fault) = bad_number

-- `sp`: so many blank lines, and one where no height is given
abbrev pub space_down : Known → List (List ℕ) → Response
space_down known [] = happens [] (Page (Space 1) ∷ [])
space_down known (text ∷ others) = spaced (followed (height_in (place_down known) text) (rounded_in_range 40))

-- so many lines are to stand together, none where the height is below 0
abbrev pub needed : Result ℤ NumFault → Response
needed (Ok height) = happens [] (Page (Need (at_least_zero height / 40)) ∷ [])
needed (Err fault) = bad_number

-- `ne`: so many lines are needed, and one where no height is given
abbrev pub need : Known → List (List ℕ) → Response
need known [] = happens [] (Page (Need 1) ∷ [])
need known (text ∷ others) = needed (followed (height_in (place_down known) text) (rounded_in_range 40))

-- `ns`, `rs`: no-space mode goes on, or off
abbrev pub spaceless : Bool → Response
spaceless on = happens [] (Page (NoSpace on) ∷ [])

-- lines stand so far from each other, and at least one apart
abbrev pub spacing : Result ℤ NumFault → Response
spacing (Ok lines) = setting (Spacing (max 1 (at_least_zero lines)))
spacing (Err fault) = bad_number

-- `ls`: the previous spacing where none is given
abbrev pub line_spacing : Known → List (List ℕ) → Response
line_spacing known [] = setting (Spacing known.settings.previous_spacing)
line_spacing known (text ∷ others) = spacing (value_in Units text)
