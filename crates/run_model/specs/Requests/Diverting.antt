-- Diversions: they are opened and ended (manual, section 7.3), and get a trap (section 7.4).
use Rattle.std.specs.Prelude.{ℕ, ℤ, Bool, List, [], ◌∷◌, Option, Some, None, Result, Ok, Err}
use Rattle.roff_num.specs.ShortNames.{name_at, name_or_none}
use Rattle.roff_num.specs.declared.num.NumFault.{NumFault}
use Rattle.roff_num.specs.declared.short_name.ShortName.{ShortName}
use Rattle.page_model.specs.declared.layout_event.LayoutEvent.TheVariants.{Divert, DiversionTrap, EndDivert, NoDiversionTrap}
use Rattle.run_model.specs.Registers.{Known}
use Rattle.run_model.specs.declared.event.PageEvent.TheVariants.{Page}
use Rattle.run_model.specs.Requests.Effects.{Response, happens, bad_number}
use Rattle.run_model.specs.Requests.Traps.{place_given}

-- a diversion of a name is opened, or without a name the innermost one ends
abbrev pub diverted : Bool → Option ShortName → Response
diverted appends (Some name) = happens [] (Page (Divert name appends) ∷ [])
diverted appends None = happens [] (Page EndDivert ∷ [])

-- `di`, and `da`, which appends: text goes to a diversion of this name from now on; without a name the innermost one ends
abbrev pub divert : Bool → List (List ℕ) → Response
divert appends as_given = diverted appends (name_or_none (name_at 0 as_given))

-- a macro springs at a place of the innermost open diversion, or without a name none does any more
abbrev pub diversion_trapped : Option ShortName → Result ℤ NumFault → Response
diversion_trapped (Some name) (Ok place) = happens [] (Page (DiversionTrap (record { place = place; name = name })) ∷ [])
diversion_trapped None (Ok place) = happens [] (Page NoDiversionTrap ∷ [])
diversion_trapped name (Err fault) = bad_number

-- `dt`: the trap of the innermost open diversion; without a place it has none any more
abbrev pub diversion_trap : Known → List (List ℕ) → Response
diversion_trap known [] = happens [] (Page NoDiversionTrap ∷ [])
diversion_trap known (text ∷ others) = diversion_trapped (name_or_none (name_at 1 (text ∷ others))) (place_given known text)
