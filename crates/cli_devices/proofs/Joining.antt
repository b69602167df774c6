-- What readers give one behind another.
use Rattle.std.proofs.Common.{◌≡◌, ◌<◌, List, [], ◌∷◌, get_or, length, refl, arith}
use Rattle.input_source.specs.BlockRead.{SomeTape}
use Rattle.input_source.specs.Tape.{Tape, Failed, only}
use Rattle.cli_devices.specs.declared.inputs.Part.{Part}
use Rattle.cli_devices.specs.Inputs.Part.{part_gives}
use Rattle.cli_devices.specs.Inputs.Giving.{GivesJoined, inputs_give, some_input}

-- the first one fails
pub failed_first : (first second : Tape → Type 0) → first (only Failed) → SomeTape second → GivesJoined first second (only Failed)
failed_first first second failed may = record { front = only Failed; given = failed; back = may.tape; given_behind = may.given; is = refl }

-- the first of the parts that are left fails
pub first_failed : {F S : Type 0} (file : F → Tape → Type 0) (standard : S → Tape → Type 0) (some_file : (f : F) → SomeTape (file f)) (some_standard : (s : S) → SomeTape (standard s))
    (parts : List (Part F S)) (part d : Part F S) → 0 < length parts → part ≡ get_or parts 0 d → part_gives file standard part (only Failed)
    → inputs_give file standard parts (only Failed)
first_failed file standard some_file some_standard [] part d more is failed = absurd (omega (arith, more))
first_failed file standard some_file some_standard (p ∷ ps) part d more is failed =
    failed_first (part_gives file standard p) (inputs_give file standard ps) (rw is at failed) (some_input file standard some_file some_standard ps)
