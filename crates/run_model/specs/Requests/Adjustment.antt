-- Adjusting and centring (manual, section 4).
use Rattle.std.specs.Prelude.{ℕ, ℤ, true, List, [], ◌∷◌, Option, Some, None, Result, Ok, Err, if◌then◌else◌, ◌==◌}
use Rattle.page_model.specs.declared.event.Event.TheVariants.{Set}
use Rattle.page_model.specs.declared.settings.AdjustMode.{AdjustMode}
use Rattle.page_model.specs.declared.settings.AdjustMode.TheVariants.{Left, Right, Centre, Both}
use Rattle.page_model.specs.declared.settings.Param.TheVariants.{Adjusting, Mode, Centring}
use Rattle.roff_num.specs.declared.num.NumFault.{NumFault}
use Rattle.roff_num.specs.declared.num.Scale.TheVariants.{Units}
use Rattle.run_model.specs.Numbers.{value_in, at_least_zero}
use Rattle.run_model.specs.declared.event.PageEvent.TheVariants.{Text}
use Rattle.run_model.specs.Requests.Effects.{Response, happens, setting, bad_number}

-- the mode of adjusting that a letter stands for
abbrev pub mode_named : ℕ → Option AdjustMode
mode_named c =
    if c == 108 then Some Left
    else if c == 114 then Some Right
    else if c == 99 then Some Centre
    else if c == 98 then Some Both
    else if c == 110 then Some Both
    else None

-- the mode that the first letter of the first argument stands for
abbrev pub mode_wanted : List (List ℕ) → Option AdjustMode
mode_wanted [] = None
mode_wanted ([] ∷ as_given) = None
mode_wanted ((c ∷ letters) ∷ as_given) = mode_named c

-- adjusting on, in a mode or in the one in force
abbrev pub adjusting_in : Option AdjustMode → Response
adjusting_in None = setting (Adjusting true)
adjusting_in (Some mode) = happens [] (Text (Set (Mode mode)) ∷ Text (Set (Adjusting true)) ∷ [])

-- `ad`: the mode is that of the argument, if it names one
abbrev pub adjust : List (List ℕ) → Response
adjust as_given = adjusting_in (mode_wanted as_given)

-- so many lines are centred from now on, none where that is below 0
abbrev pub centring : Result ℤ NumFault → Response
centring (Ok count) = setting (Centring (at_least_zero count))
centring (Err fault) = bad_number

-- `ce`: one line where no number is given
abbrev pub centre : List (List ℕ) → Response
centre [] = setting (Centring 1)
centre (text ∷ others) = centring (value_in Units text)
