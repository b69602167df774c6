-- Macros that spring: the input-line trap (manual, section 7.5).
use Rattle.std.specs.Prelude.{ℕ, ℤ, List, [], ◌∷◌, Option, Some, None, Result, Ok, Err, if◌then◌else◌, ◌==◌}
use Rattle.roff_num.specs.ShortNames.{name_at, name_or_none}
use Rattle.roff_num.specs.declared.num.NumFault.{NumFault}
use Rattle.roff_num.specs.declared.num.Scale.TheVariants.{Units}
use Rattle.roff_num.specs.declared.short_name.ShortName.{ShortName}
use Rattle.run_model.specs.Numbers.{value_in, at_least_zero}
use Rattle.run_model.specs.declared.event.InputTrap.{InputTrap}
use Rattle.run_model.specs.declared.event.PageEvent.TheVariants.{InputTrap as SetsTrap}
use Rattle.run_model.specs.Requests.Effects.{Response, happens, bad_number}

-- the trap of so many lines and a name: none without a name, and none below one line
abbrev pub trap_of : ℕ → Option ShortName → Option InputTrap
trap_of lines None = None
trap_of lines (Some name) = if lines == 0 then None else Some (record { lines = lines; name = name })

-- the trap is set, or the one that was set goes
abbrev pub trap_set : Option ShortName → Result ℤ NumFault → Response
trap_set name (Ok lines) = happens [] (SetsTrap (trap_of (at_least_zero lines) name) ∷ [])
trap_set name (Err fault) = bad_number

-- `it`: a macro springs behind so many text lines; without both there is no trap any more
abbrev pub input_trap : List (List ℕ) → Response
input_trap [] = happens [] (SetsTrap None ∷ [])
input_trap (text ∷ others) = trap_set (name_or_none (name_at 1 (text ∷ others))) (value_in Units text)
