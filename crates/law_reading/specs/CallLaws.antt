-- Laws of control lines that call a body, and of those whose names stand for nothing (manual, section 7).
use Rattle.std.specs.Prelude.{◌≡◌, ℕ, ◌+◌, ◌≤◌, false, List, [], ◌∷◌, ◌++◌, length, map, take, All, Some, None, ◌==◌}
use Rattle.roff_num.specs.declared.limits.Limits.{Limits}
use Rattle.input_model.specs.Arguments.{no_arguments}
use Rattle.input_source.specs.Bytes.{apostrophe, blank, dot, newline}
use Rattle.input_model.specs.Input.{Ahead, ByteAhead, ReturnAhead, lines_taken}
use Rattle.input_model.specs.Input.Calls.{called_text}
use Rattle.input_arguments.specs.Quoting.{quoted_line}
use Rattle.input_source.specs.Tape.{Tape, OneByte, items_then}
use Rattle.roff_store.specs.Named.{Named, entry_of}
use Rattle.roff_store.specs.Texts.{Entry, Body}
use Rattle.law_reading.specs.InterpolationLaws.{StandsForItself}
use Rattle.run_model.specs.ItemsTaken.{TakesItems}
use Rattle.run_model.specs.Within.{IsWithin}
use Rattle.run_model.specs.Reading.Items.{PageInput}
use Rattle.run_model.specs.PageEvents.{PageEvent}
use Rattle.run_model.specs.Run.{State, after}
use Rattle.roff_num.specs.ShortNames.{name_bytes}
use Rattle.run_model.specs.declared.line_state.LineState.TheVariants.{LineStart}
use Rattle.roff_num.specs.declared.short_name.ShortName.{ShortName}
use Rattle.run_model.specs.Reading.ControlLines.{BelongsToName}

-- a run stands where a line begins: it takes items, nothing is half read, and no argument is held
pub record BeginsLine (s : State) : Type 0 where
  pub takes : TakesItems s
  pub reading : s.reading ≡ LineStart
  pub escapes : s.input.escapes ≡ []
  pub arguments : s.input.arguments ≡ no_arguments

-- what a control line begins with
pub data IsControl : ℕ → Type 0 where
  IsDot : IsControl dot
  IsApostrophe : IsControl apostrophe

-- what stands behind the name of a line that gives these arguments, each in quotes and behind a blank
abbrev pub behind_call : List (List ℕ) → List ℕ
behind_call [] = []
behind_call (argument ∷ arguments) = blank ∷ quoted_line (argument ∷ arguments)

-- a line that begins so, has this name and gives these arguments
abbrev pub call_line : ℕ → ShortName → List (List ℕ) → List ℕ
call_line control name arguments = control ∷ name_bytes name ++ behind_call arguments ++ newline ∷ []

-- a control line may be so: it calls a body by its name, with arguments of bytes that stand for themselves
pub record IsCall (names : Named Entry) (control : ℕ) (name : ShortName) (body : List ℕ) (given : List (List ℕ)) : Type 0 where
  pub begins : IsControl control
  pub is_name : All BelongsToName (name_bytes name)
  pub stands_for : entry_of (name_bytes name) names ≡ Some (Body body)
  pub plain : All (All StandsForItself) given

-- a called body stands in front, as it is read, and its end; up to that the first nine of these arguments are in force
abbrev pub with_call : List ℕ → List (List ℕ) → PageInput → PageInput
with_call body arguments i = record i {
  ahead = map ByteAhead (called_text body) ++ ReturnAhead 0 ∷ i.ahead;
  calls = take 9 arguments ∷ i.calls;
}

-- Reading a line that calls a body leads to where the body stands in front of what stood behind the line, and a line begins.
-- So many steps lead there as the line has bytes, and each byte costs one.
abbrev pub BodiesAreCalled : Type 0
BodiesAreCalled =
    (l : Limits) (s : State) (control : ℕ) (name : ShortName) (body : List ℕ) (arguments : List (List ℕ))
    (rest : List (Ahead PageEvent)) →
    BeginsLine s → IsCall s.input.names control name body arguments →
    let line : List ℕ = call_line control name arguments in
    s.input.ahead ≡ map ByteAhead line ++ rest →
    let behind : PageInput = record s.input { ahead = rest; charge = s.input.charge + length line } in
    let called : State = record s { input = with_call body arguments behind } in
    IsWithin l s → IsWithin l called → after l (length line) s ≡ called

-- and so it is where the line stands in the source itself, with nothing ahead of it
abbrev pub BodiesAreCalledFromTheSource : Type 0
BodiesAreCalledFromTheSource =
    (l : Limits) (s : State) (control : ℕ) (name : ShortName) (body : List ℕ) (arguments : List (List ℕ)) (tape : Tape) →
    BeginsLine s → IsCall s.input.names control name body arguments → s.input.ahead ≡ [] →
    let line : List ℕ = call_line control name arguments in
    s.tape ≡ items_then (map OneByte line) tape →
    let called : State = record s { tape = tape; input = with_call body arguments (lines_taken line s.input) } in
    IsWithin l s → IsWithin l called → after l (length line) s ≡ called

-- what may stand behind a name up to the line's end: nothing, or a blank and any bytes
pub data IsBehindName : List ℕ → Type 0 where
  NothingBehind : IsBehindName []
  BlankBehind : (bytes : List ℕ) → All (λ b. (b == newline) ≡ false) bytes → IsBehindName (blank ∷ bytes)

-- a line that begins so, has this name, and this behind it
abbrev pub named_line : ℕ → ShortName → List ℕ → List ℕ
named_line control name behind = control ∷ name_bytes name ++ behind ++ newline ∷ []

-- a control line may be so: its name stands for nothing
pub record IsUnknown (names : Named Entry) (control : ℕ) (name : ShortName) (behind : List ℕ) : Type 0 where
  pub begins : IsControl control
  pub is_name : All BelongsToName (name_bytes name)
  pub stands_for : entry_of (name_bytes name) names ≡ None
  pub is_behind : IsBehindName behind

-- a line whose name stands for nothing is passed over in as many steps as it has bytes, and each costs one; nothing else changes
abbrev pub UnknownNamesDoNothing : Type 0
UnknownNamesDoNothing =
    (l : Limits) (s : State) (control : ℕ) (name : ShortName) (behind : List ℕ) (rest : List (Ahead PageEvent)) →
    BeginsLine s → IsUnknown s.input.names control name behind →
    let line : List ℕ = named_line control name behind in
    s.input.ahead ≡ map ByteAhead line ++ rest → IsWithin l s → s.input.charge + length line ≤ l.bytes →
    after l (length line) s ≡ record s { input = record s.input { ahead = rest; charge = s.input.charge + length line } }

-- and so it is where the line stands in the source itself, with nothing ahead of it
abbrev pub UnknownNamesOfTheSourceDoNothing : Type 0
UnknownNamesOfTheSourceDoNothing =
    (l : Limits) (s : State) (control : ℕ) (name : ShortName) (behind : List ℕ) (tape : Tape) →
    BeginsLine s → IsUnknown s.input.names control name behind → s.input.ahead ≡ [] →
    let line : List ℕ = named_line control name behind in
    s.tape ≡ items_then (map OneByte line) tape → IsWithin l s → s.input.charge + length line ≤ l.bytes →
    after l (length line) s ≡ record s { tape = tape; input = lines_taken line s.input }
