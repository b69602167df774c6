-- Switching to another environment, and back (manual, section 17).
use Rattle.std.specs.Prelude.{ℕ, ℤ, pos, negsuc, List, [], ◌∷◌, Option, Some, None, Result, Ok, Err, if◌then◌else◌}
use Rattle.roff_num.specs.declared.num.NumFault.{NumFault}
use Rattle.roff_num.specs.declared.num.Scale.TheVariants.{Units}
use Rattle.run_model.specs.Environments.{EnvironmentNumber, environment_numbered}
use Rattle.run_model.specs.Numbers.{value_in}
use Rattle.run_model.specs.Registers.{Known}
use Rattle.run_model.specs.declared.event.PageEvent.TheVariants.{Environment, Back}
use Rattle.run_model.specs.Requests.Effects.{Response, happens, bad_number, no_such_environment}

-- the environment is left for this one, if there is one
abbrev pub switching_to : Option EnvironmentNumber → Response
switching_to (Some number) = happens [] (Environment number ∷ [])
switching_to None = no_such_environment

-- it is left for that of a number
abbrev pub switching_by : Result ℤ NumFault → Response
switching_by (Ok (pos number)) = switching_to (environment_numbered number)
switching_by (Ok (negsuc number)) = no_such_environment
switching_by (Err fault) = bad_number

-- `ev`: back to the one that was left last where no number is given
abbrev pub switch : Known → List (List ℕ) → Response
switch known [] = if known.has_left then happens [] (Back ∷ []) else no_such_environment
switch known (text ∷ others) = switching_by (value_in Units text)
