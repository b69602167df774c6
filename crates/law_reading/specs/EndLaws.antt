-- Laws over the start and the end of a run: registers that are given, the last macro, and the end of all input (manual,
-- sections 7, 8 and 18).
use Rattle.std.specs.Prelude.{◌≡◌, ◌≢◌, ◌⊎◌, ℕ, true, false, List, [], ◌∷◌, ◌++◌, map, Some, None, ◌==◌}
use Rattle.std.specs.List.{AllByRecursion}
use Rattle.roff_num.specs.ShortNames.{name_bytes}
use Rattle.roff_num.specs.declared.limits.Limits.{Limits}
use Rattle.roff_num.specs.declared.num.Num.{Num}
use Rattle.roff_num.specs.declared.short_name.ShortName.{ShortName}
use Rattle.input_model.specs.Input.{ByteAhead, ReturnAhead, leaving, outermost_back, without_arguments}
use Rattle.input_model.specs.Input.Calls.{called_text}
use Rattle.input_model.specs.Input.Names.{body_named}
use Rattle.input_source.specs.Tape.{Ended, Ends, front}
use Rattle.run_model.specs.Reading.Ends.{due, is_unfinished}
use Rattle.run_model.specs.Reading.Returns.{gone_back_to}
use Rattle.run_model.specs.Registers.{is_read_only, settable}
use Rattle.run_model.specs.Requests.{called_by}
use Rattle.run_model.specs.Events.Lines.{closing_events}
use Rattle.run_model.specs.Run.{State, nothing_follows, ending_as, known, made, going_back_to, step, with_registers}
use Rattle.run_model.specs.declared.line_state.LineState.TheVariants.{Exiting, LineStart}
use Rattle.run_model.specs.declared.phase.Phase.{Phase}
use Rattle.run_model.specs.declared.phase.Phase.TheVariants.{Reading, LastMacro, Closing}
use Rattle.run_model.specs.declared.request.Called.TheVariants.{Body as ABody}
use Rattle.run_model.specs.declared.status.Status.TheVariants.{Done}

-- all that a run reads is read, in this phase: nothing is to do, due, ahead, half read or unfinished, no macro that sprang is still to
-- be read, and no text of a diversion to change, and the source has ended or is closed
pub record IsReadThrough (phase : Phase) (s : State) : Type 0 where
  pub phase_is : s.phase ≡ phase
  pub going : s.ended ≡ None
  pub idle : s.to_do ≡ []
  pub unsprung : s.follows ≡ nothing_follows
  pub none_due : due s.reading ≡ None
  pub none_ahead : s.input.ahead ≡ []
  pub none_half : s.input.escapes ≡ []
  pub over : (s.is_closed ≡ true) ⊎ (front s.tape ≡ Ends Ended)
  pub finished : is_unfinished phase (known s) s.reading ≡ false

-- behind the input's last line the text of the last macro is read, as the body of a call without arguments, and its end
abbrev pub TheLastMacroIsRead : Type 0
TheLastMacroIsRead =
    (l : Limits) (s : State) (name : ShortName) → IsReadThrough Reading s → s.registers.last_macro ≡ Some name
    → called_by name s.input.names ≡ ABody name
    → step l s ≡ made l s (record s {
      phase = LastMacro;
      reading = LineStart;
      input = record (without_arguments s.input) {
        ahead = map ByteAhead (called_text (body_named (name_bytes name) s.input)) ++ ReturnAhead 0 ∷ [];
        calls = [] ∷ s.input.calls;
      };
    })

-- without one, nothing is read behind it
abbrev pub WithoutOneNothingIsRead : Type 0
WithoutOneNothingIsRead =
    (l : Limits) (s : State) → IsReadThrough Reading s → s.registers.last_macro ≡ None
    → step l s ≡ made l s (record s { phase = LastMacro; reading = LineStart })

-- behind that diversions are dropped, the pending line is placed and the last page ejected, and only then
abbrev pub ThenTheLineIsPlaced : Type 0
ThenTheLineIsPlaced =
    (l : Limits) (s : State) → IsReadThrough LastMacro s
    → step l s ≡ made l s (record s { phase = Closing; reading = LineStart; to_do = closing_events })

-- and the run is done
abbrev pub ThenTheRunIsDone : Type 0
ThenTheRunIsDone = (l : Limits) (s : State) → IsReadThrough Closing s → step l s ≡ made l s (ending_as Done s)

-- Behind the line of an `.ex` what is ahead is dropped, and nothing more is taken of the source; the phase doesn't end. Read on is the
-- line that the outermost body interrupted, if one did, as behind its end.
abbrev pub ExClosesTheInput : Type 0
ExClosesTheInput =
    (l : Limits) (s : State) → s.ended ≡ None → s.to_do ≡ [] → s.follows ≡ nothing_follows → s.reading ≡ Exiting → s.phase ≢ Closing
    → step l s ≡ made l s (going_back_to (gone_back_to (outermost_back 0 s.input.ahead)) (record s { input = leaving s.input; is_closed = true }))

-- as the run closes nothing is dropped: its line ends, and does nothing
abbrev pub ExIsIgnoredAsTheRunCloses : Type 0
ExIsIgnoredAsTheRunCloses =
    (l : Limits) (s : State) → s.ended ≡ None → s.to_do ≡ [] → s.follows ≡ nothing_follows → s.reading ≡ Exiting → s.phase ≡ Closing
    → step l s ≡ made l s (record s { reading = LineStart })

-- no other register of this name is among these
abbrev pub NamesNone : ℕ → List (ℕ × Num) → Type 0
NamesNone name others = AllByRecursion (λ other. (name == other.0) ≡ false) others

-- a register that is given, and not given again, reads as its value, if no limit refused one
abbrev pub GivenRegistersRead : Type 0
GivenRegistersRead =
    (l : Limits) (before behind : List (ℕ × Num)) (name : ℕ) (value : Num) (s : State) → is_read_only (name ∷ []) ≡ false → NamesNone name behind
    → (with_registers l (before ++ (name, value) ∷ behind) s).ended ≡ None
    → (settable (name ∷ []) (known (with_registers l (before ++ (name, value) ∷ behind) s))).value ≡ value
