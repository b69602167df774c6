-- What the input as a whole gives.
use Rattle.std.specs.Prelude.{◌≡◌, List, [], ◌∷◌, refl}
use Rattle.cli_devices.specs.declared.inputs.Part.{Part}
use Rattle.cli_devices.specs.Inputs.Part.{part_gives, some_part}
use Rattle.input_source.specs.BlockRead.{SomeTape}
use Rattle.input_source.specs.Tape.{Item, Tape, Ending, Ended, Failed, Stopped, items_then, only}

-- these items, and behind them a tape, if they end by the end of their input
abbrev pub going_on : Ending → List Item → Tape → Tape
going_on Ended items back = items_then items back
going_on Failed items back = record { items = items; ending = Failed }
going_on (Stopped limit) items back = record { items = items; ending = Stopped limit }

-- a tape, and another one behind its end
abbrev pub joined : Tape → Tape → Tape
joined front back = going_on front.ending front.items back

-- what two readers may give one behind the other
pub record GivesJoined (first second : Tape → Type 0) (t : Tape) : Type 0 where
  pub front : Tape
  pub given : first front
  pub back : Tape
  pub given_behind : second back
  pub is : t ≡ joined front back

-- what the parts give one after another: the next one only behind the end of one, and a fault is final
abbrev pub inputs_give : {F S : Type 0} → (F → Tape → Type 0) → (S → Tape → Type 0) → List (Part F S) → Tape → Type 0
inputs_give file standard [] t = t ≡ only Ended
inputs_give file standard (part ∷ parts) t = GivesJoined (part_gives file standard part) (inputs_give file standard parts) t

-- something may always come
pub some_input : {F S : Type 0} (file : F → Tape → Type 0) (standard : S → Tape → Type 0)
    → ((f : F) → SomeTape (file f)) → ((s : S) → SomeTape (standard s)) → (parts : List (Part F S)) → SomeTape (inputs_give file standard parts)
some_input file standard some_file some_standard [] = record { tape = only Ended; given = refl }
some_input file standard some_file some_standard (part ∷ parts) =
    let first = some_part file standard some_file some_standard part in
    let others = some_input file standard some_file some_standard parts in record {
      tape = joined first.tape others.tape;
      given = record { front = first.tape; given = first.given; back = others.tape; given_behind = others.given; is = refl };
    }
