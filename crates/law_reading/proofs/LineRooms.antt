-- There is room for the bytes of a line of which nothing is held.
use Rattle.std.proofs.Common.{◌≡◌, ℕ, ◌+◌, ◌≤◌, List, [], ◌∷◌, length, refl, sym, subst, arith, sum_by}
use Rattle.roff_num.specs.declared.limits.Limits.{Limits}
use Rattle.input_model.specs.Arguments.{no_arguments}
use Rattle.law_reading.specs.CallLaws.{BeginsLine}
use Rattle.run_model.proofs.ItemsTaken.{Origin, ahead_at, tape_at}
use Rattle.run_model.proofs.PlainRuns.{HasRoom, HasRoom-behind, HasRoom-start, IsSmall, IsWithin-HasRoom, Most, behind_byte, is-run_at, run_at}
use Rattle.run_model.specs.Reading.Items.{PageInput}
use Rattle.run_model.specs.Run.{State}
use Rattle.run_model.specs.Stages.{Stage}
use Rattle.run_model.specs.Within.{IsWithin}
use Rattle.run_model.specs.declared.line_state.LineState.{LineState}
use Rattle.run_model.specs.declared.line_state.LineState.TheVariants.{LineStart}

-- a run reads this of such a line
abbrev pub reads_at : LineState → State → Stage
reads_at reading s = record { reading = reading; escapes = []; arguments = no_arguments; texts = s.input.open_texts }

-- no more is held than is
abbrev pub most_of : State → Most
most_of s = record { held = 0; stored = sum_by length s.input.open_texts; texts = length s.input.open_texts }

-- the limits have room for these bytes
abbrev pub RoomIn : Limits → State → Origin → LineState → List ℕ → PageInput → Type 0
RoomIn l s from reading bytes i = HasRoom l s s.input.names from (most_of s) (reads_at reading s) bytes i

abbrev pub Room : Limits → State → Origin → List ℕ → PageInput → Type 0
Room l s from bytes i = RoomIn l s from LineStart bytes i

-- so it is where the line begins
pub room-start : (l : Limits) (s : State) (from : Origin) (line : List ℕ) → BeginsLine s → s.input.ahead ≡ ahead_at from line → s.tape ≡ tape_at from line s.tape
    → IsWithin l s → s.input.charge + length line ≤ l.bytes → Room l s from line s.input
room-start l s from line begins ahead tape within charged =
    let is : run_at s s.input.names (reads_at LineStart s) from line s.input ≡ s =
    is-run_at s from line (reads_at LineStart s) begins.reading begins.escapes begins.arguments refl ahead tape in
    HasRoom-start l s s.input.names from (most_of s) (reads_at LineStart s) line s.input (subst (IsWithin l) (sym is) within) charged
    (omega (arith, within.stack)) within.store within.making

-- and behind a byte
pub room-behind : (l : Limits) (s : State) (from : Origin) (b : ℕ) (bytes : List ℕ) (i : PageInput) → Room l s from (b ∷ bytes) i → Room l s from bytes (behind_byte from b i)
room-behind l s from b bytes i room =
    HasRoom-behind l s s.input.names from (most_of s) (reads_at LineStart s) (reads_at LineStart s) b bytes i (omega arith) room

-- so the run is within the limits
pub within-room : (l : Limits) (s : State) (from : Origin) (reading : LineState) (bytes : List ℕ) (i : PageInput) → RoomIn l s from reading bytes i
    → IsWithin l (run_at s s.input.names (reads_at reading s) from bytes i)
within-room l s from reading bytes i room =
    let small : IsSmall (most_of s) (reads_at reading s) = record { none_half = refl; held_few = omega arith; stored_few = omega arith; texts_few = omega arith } in
    IsWithin-HasRoom l s s.input.names from (most_of s) (reads_at reading s) bytes i small room
