-- Laws of control lines that call a body with arguments of any form: words, or what the line's bytes are read as (manual,
-- sections 7 and 7.3).
use Rattle.std.specs.Prelude.{◌≡◌, ℕ, ◌+◌, List, [], ◌∷◌, ◌++◌, length, map, fold, All, Some}
use Rattle.roff_num.specs.declared.limits.Limits.{Limits}
use Rattle.roff_num.specs.declared.short_name.ShortName.{ShortName}
use Rattle.roff_num.specs.ShortNames.{name_bytes}
use Rattle.input_model.specs.Arguments.{arguments_read, no_arguments, with_argument_byte}
use Rattle.input_source.specs.Bytes.{blank, newline}
use Rattle.input_source.specs.Tape.{Tape, OneByte, items_then}
use Rattle.roff_store.specs.Named.{Named, entry_of}
use Rattle.roff_store.specs.Texts.{Entry, Body}
use Rattle.input_model.specs.Input.{Ahead, ByteAhead, lines_taken}
use Rattle.law_reading.specs.CallLaws.{BeginsLine, IsControl, with_call}
use Rattle.law_reading.specs.InterpolationLaws.{StandsForItself}
use Rattle.law_reading.specs.WordArguments.{AreWords, IsWord, words_line, words_of}
use Rattle.run_model.specs.Reading.ControlLines.{BelongsToName}
use Rattle.run_model.specs.Reading.Items.{PageInput}
use Rattle.run_model.specs.Run.{State, after}
use Rattle.run_model.specs.Within.{IsWithin}
use Rattle.run_model.specs.PageEvents.{PageEvent}

-- a line that begins so and has this name, and behind that a blank and these bytes
abbrev pub call_with : ℕ → ShortName → List ℕ → List ℕ
call_with control name bytes = control ∷ name_bytes name ++ blank ∷ bytes ++ newline ∷ []

-- the arguments that the bytes of a line are read as
abbrev pub read_as : List ℕ → List (List ℕ)
read_as bytes = arguments_read (fold with_argument_byte no_arguments bytes)

-- a control line calls a body by its name
pub record NamesBody (names : Named Entry) (control : ℕ) (name : ShortName) (body : List ℕ) : Type 0 where
  pub begins : IsControl control
  pub is_name : All BelongsToName (name_bytes name)
  pub stands_for : entry_of (name_bytes name) names ≡ Some (Body body)

-- A body that a line calls gets the first nine of the arguments that the line's bytes are read as, whatever these are, if each
-- stands for itself. So many steps lead to where it stands in front as the line has bytes, and each byte costs one.
abbrev pub BodiesGetTheArgumentsRead : Type 0
BodiesGetTheArgumentsRead =
    (l : Limits) (s : State) (control : ℕ) (name : ShortName) (body bytes : List ℕ) (rest : List (Ahead PageEvent)) →
    BeginsLine s → NamesBody s.input.names control name body → All StandsForItself bytes →
    let line : List ℕ = call_with control name bytes in
    s.input.ahead ≡ map ByteAhead line ++ rest →
    let behind : PageInput = record s.input { ahead = rest; charge = s.input.charge + length line } in
    let called : State = record s { input = with_call body (read_as bytes) behind } in
    IsWithin l s → IsWithin l called → after l (length line) s ≡ called

-- and so it is where the line stands in the source itself, with nothing ahead of it
abbrev pub BodiesOfTheSourceGetTheArgumentsRead : Type 0
BodiesOfTheSourceGetTheArgumentsRead =
    (l : Limits) (s : State) (control : ℕ) (name : ShortName) (body bytes : List ℕ) (tape : Tape) →
    BeginsLine s → NamesBody s.input.names control name body → All StandsForItself bytes → s.input.ahead ≡ [] →
    let line : List ℕ = call_with control name bytes in
    s.tape ≡ items_then (map OneByte line) tape →
    let called : State = record s { tape = tape; input = with_call body (read_as bytes) (lines_taken line s.input) } in
    IsWithin l s → IsWithin l called → after l (length line) s ≡ called

-- words, with blanks between them, are its arguments
abbrev pub BodiesGetWords : Type 0
BodiesGetWords =
    (l : Limits) (s : State) (control : ℕ) (name : ShortName) (body : List ℕ) (leading : ℕ) (words : List (List ℕ × ℕ))
    (last : List ℕ) (rest : List (Ahead PageEvent)) →
    BeginsLine s → NamesBody s.input.names control name body → AreWords words → IsWord last →
    let line : List ℕ = call_with control name (words_line leading words ++ last) in
    s.input.ahead ≡ map ByteAhead line ++ rest →
    let behind : PageInput = record s.input { ahead = rest; charge = s.input.charge + length line } in
    let called : State = record s { input = with_call body (words_of words ++ last ∷ []) behind } in
    IsWithin l s → IsWithin l called → after l (length line) s ≡ called

-- and so it is where the line stands in the source itself, with nothing ahead of it
abbrev pub BodiesOfTheSourceGetWords : Type 0
BodiesOfTheSourceGetWords =
    (l : Limits) (s : State) (control : ℕ) (name : ShortName) (body : List ℕ) (leading : ℕ) (words : List (List ℕ × ℕ))
    (last : List ℕ) (tape : Tape) →
    BeginsLine s → NamesBody s.input.names control name body → AreWords words → IsWord last → s.input.ahead ≡ [] →
    let line : List ℕ = call_with control name (words_line leading words ++ last) in
    s.tape ≡ items_then (map OneByte line) tape →
    let given : List (List ℕ) = words_of words ++ last ∷ [] in
    let called : State = record s { tape = tape; input = with_call body given (lines_taken line s.input) } in
    IsWithin l s → IsWithin l called → after l (length line) s ≡ called
