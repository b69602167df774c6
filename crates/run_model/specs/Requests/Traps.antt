-- Traps of pages: they are planted, moved and removed (manual, section 7.5).
use Rattle.std.specs.Prelude.{ℕ, ℤ, ◌/◌, pos, negsuc, List, [], ◌∷◌, Option, Some, None, Result, Ok, Err}
use Rattle.roff_num.specs.ShortNames.{name_at, name_or_none}
use Rattle.roff_num.specs.Steps.{followed}
use Rattle.roff_num.specs.declared.num.NumFault.{NumFault}
use Rattle.roff_num.specs.declared.short_name.ShortName.{ShortName}
use Rattle.page_model.specs.declared.layout_event.LayoutEvent.TheVariants.{MoveTrap, Plant, RemoveTrap, Uproot}
use Rattle.run_model.specs.Numbers.{height_in, rounded_in_range}
use Rattle.run_model.specs.Registers.{Known, place_down}
use Rattle.run_model.specs.declared.event.PageEvent.TheVariants.{Page}
use Rattle.run_model.specs.Requests.Effects.{Response, Ignored, happens, bad_number}

-- the lines of a height in basic units that is a multiple of theirs; below 0 they count from the page's end
abbrev pub in_lines : ℤ → ℤ
in_lines (pos height) = pos (height / 40)
in_lines (negsuc height) = negsuc (height / 40)

-- the place in lines that a text gives
abbrev pub place_given : Known → List ℕ → Result ℤ NumFault
place_given known text =
    followed (height_in (place_down known) text) (λ v. followed (rounded_in_range 40 v) (λ r. Ok (in_lines r)))

-- a trap is planted at a place, or without a name the first one there goes
abbrev pub planted : Option ShortName → Result ℤ NumFault → Response
planted (Some name) (Ok place) = happens [] (Page (Plant (record { place = place; name = name })) ∷ [])
planted None (Ok place) = happens [] (Page (Uproot place) ∷ [])
planted name (Err fault) = bad_number

-- `wh`: a macro springs at a place; without a place it is ignored
abbrev pub plant_trap : Known → List (List ℕ) → Response
plant_trap known [] = Ignored []
plant_trap known (text ∷ others) = planted (name_or_none (name_at 1 (text ∷ others))) (place_given known text)

-- the first trap of a name is moved to a place
abbrev pub moved : ShortName → Result ℤ NumFault → Response
moved name (Ok place) = happens [] (Page (MoveTrap name place) ∷ [])
moved name (Err fault) = bad_number

-- the same to where a text says; without one it goes
abbrev pub moved_to : Known → ShortName → List (List ℕ) → Response
moved_to known name [] = happens [] (Page (RemoveTrap name) ∷ [])
moved_to known name (text ∷ others) = moved name (place_given known text)

-- the same of what may be no name: then it is ignored
abbrev pub moved_if_named : Known → Option ShortName → List (List ℕ) → Response
moved_if_named known None others = Ignored []
moved_if_named known (Some name) others = moved_to known name others

-- `ch`: the first trap of a name is moved, or goes
abbrev pub change_trap : Known → List (List ℕ) → Response
change_trap known [] = Ignored []
change_trap known (name ∷ others) = moved_if_named known (name_or_none (name_at 0 (name ∷ others))) others
