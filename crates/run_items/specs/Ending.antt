-- The end of the input (manual, section 4).
use Rattle.std.specs.Prelude.{[], ◌∷◌}
use Rattle.run_model.specs.Reading.Ends.{is_unfinished}
use Rattle.run_model.specs.Run.{State, escape_ends, input_ended, known}

-- the end of the input: what is half read ends first, one after another
abbrev pub input_ends : State → State
input_ends s = elim s.input.escapes [ [] ↦ input_ended (is_unfinished s.phase (known s) s.reading) s | first ∷ others ↦ escape_ends s ]
