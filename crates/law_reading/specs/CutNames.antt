-- Laws of escapes whose names their line, or the input, cuts (manual, sections 7.2, 8 and 20).
use Rattle.std.specs.Prelude.{◌≡◌, ℕ, ◌+◌, ◌<◌, Bool, true, List, [], ◌∷◌, ◌++◌, length, map, Option, if◌then◌else◌}
use Rattle.roff_num.specs.declared.limits.Limits.{Limits}
use Rattle.input_source.specs.Bytes.{backslash, newline}
use Rattle.input_source.specs.Tape.{Answer, Tape, Ended, Ends, Gives, OneByte, front, items_then}
use Rattle.input_escapes.specs.EscapeLaws.{register_escape, sign, string_escape}
use Rattle.input_escapes.specs.OpenEscape.{names_in}
use Rattle.input_escapes.specs.OpenEscapes.{most_names}
use Rattle.input_escapes.specs.declared.escapes.NameUse.{NameUse}
use Rattle.input_escapes.specs.declared.escapes.NameUse.TheVariants.{Register, Text as OfText}
use Rattle.roff_num.specs.declared.direction.Direction.{Direction}
use Rattle.input_model.specs.Input.{Ahead, ByteAhead}
use Rattle.law_reading.specs.InterpolationLaws.{StandsForItself, reads_above, reads_escapes, with_source_behind, with_text_ahead}
use Rattle.run_model.specs.ItemsTaken.{TakesItems}
use Rattle.run_model.specs.Messages.{message_lines}
use Rattle.run_model.specs.Reading.Units.{interrupted}
use Rattle.run_model.specs.Run.{State, after}
use Rattle.run_model.specs.Within.{IsWithin}
use Rattle.run_model.specs.PageEvents.{PageEvent}
use Rattle.run_model.specs.declared.line_state.LineState.TheVariants.{Text as InText}
use Rattle.run_model.specs.declared.line_state.TextLine.{TextLine}
use Rattle.run_model.specs.declared.message.CharacterName.TheVariants.{Nothing}
use Rattle.run_model.specs.declared.message.Message.TheVariants.{UnknownCharacter}

-- an escape that is cut behind the first of the two bytes of its name: a register's, `\n(x`, or a string's, `\*(x`
pub data IsCutEscapeOf : NameUse → ℕ → List ℕ → Type 0 where
  CutRegister : (step : Option Direction) (x : ℕ) → StandsForItself x
      → IsCutEscapeOf (Register step) x (register_escape (sign step ++ 40 ∷ x ∷ []))
  CutString : (x : ℕ) → StandsForItself x → IsCutEscapeOf OfText x (string_escape (40 ∷ x ∷ []))

-- what may cut a line of the source: a newline, or the end of all input
pub data CutsLine : Answer → Type 0 where
  AtNewline : CutsLine (Gives (OneByte newline))
  AtTheEnd : CutsLine (Ends Ended)

-- Such an escape reads as the text of its one byte's name, and its end, before the newline that cut it. Behind its bytes that is a
-- step of its own, and costs nothing.
abbrev pub CutNamesAreTheirFirstByte : Type 0
CutNamesAreTheirFirstByte =
    (l : Limits) (s : State) (purpose : NameUse) (x : ℕ) (escape : List ℕ) (rest : List (Ahead PageEvent)) →
    IsCutEscapeOf purpose x escape → TakesItems s → reads_above s.input.escapes ≡ true → names_in s.input.escapes < most_names →
    reads_escapes s.reading ≡ true → s.input.ahead ≡ map ByteAhead escape ++ ByteAhead newline ∷ rest →
    let read : State = with_text_ahead purpose (x ∷ []) (length escape) (ByteAhead newline ∷ rest) s in
    IsWithin l s → IsWithin l read → after l (length escape + 1) s ≡ read

-- and so it is where the escape stands in the source itself, before a newline or at the end of all input
abbrev pub CutNamesOfTheSourceAreTheirFirstByte : Type 0
CutNamesOfTheSourceAreTheirFirstByte =
    (l : Limits) (s : State) (purpose : NameUse) (x : ℕ) (escape : List ℕ) (tape : Tape) →
    IsCutEscapeOf purpose x escape → TakesItems s → reads_above s.input.escapes ≡ true → names_in s.input.escapes < most_names →
    reads_escapes s.reading ≡ true → s.input.ahead ≡ [] → s.tape ≡ items_then (map OneByte escape) tape → CutsLine (front tape) →
    let read : State = with_text_ahead purpose (x ∷ []) (length escape) [] (with_source_behind tape s) in
    IsWithin l s → IsWithin l read → after l (length escape + 1) s ≡ read

-- the parenthesis in front of a name of two bytes, or nothing
abbrev pub opening : Bool → List ℕ
opening opened = if opened then 40 ∷ [] else []

-- the bytes behind the backslash of an escape that is cut before any byte of its name: a register's, `\n` or `\n(`, perhaps with the
-- sign of a step, a string's, `\*` or `\*(`, or an argument's, `\$`
pub data IsNameless : List ℕ → Type 0 where
  NoRegister : (step : Option Direction) (opened : Bool) → IsNameless (110 ∷ sign step ++ opening opened)
  NoString : (opened : Bool) → IsNameless (42 ∷ opening opened)
  NoArgument : IsNameless (36 ∷ [])

-- Nothing is read or stepped in an escape's place, and nothing told: so many bytes more were taken, and this comes next. What isn't
-- a byte of the line has come: among arguments, and in a string's name, no quote follows the quote before it.
abbrev pub with_nothing_read : ℕ → List (Ahead PageEvent) → State → State
with_nothing_read taken rest s =
    record s { input = record (interrupted s.reading s.input) { ahead = rest; charge = s.input.charge + taken } }

-- Such an escape reads as nothing, without an end, before the newline that cut it. Behind its bytes that is a step of its own, and
-- costs nothing.
abbrev pub NamelessEscapesReadAsNothing : Type 0
NamelessEscapesReadAsNothing =
    (l : Limits) (s : State) (bytes : List ℕ) (rest : List (Ahead PageEvent)) →
    IsNameless bytes → TakesItems s → reads_above s.input.escapes ≡ true → names_in s.input.escapes < most_names →
    reads_escapes s.reading ≡ true →
    let escape : List ℕ = backslash ∷ bytes in
    s.input.ahead ≡ map ByteAhead escape ++ ByteAhead newline ∷ rest →
    let read : State = with_nothing_read (length escape) (ByteAhead newline ∷ rest) s in
    IsWithin l s → IsWithin l read → after l (length escape + 1) s ≡ read

-- and so it is where the escape stands in the source itself, before a newline or at the end of all input
abbrev pub NamelessEscapesOfTheSourceReadAsNothing : Type 0
NamelessEscapesOfTheSourceReadAsNothing =
    (l : Limits) (s : State) (bytes : List ℕ) (tape : Tape) →
    IsNameless bytes → TakesItems s → reads_above s.input.escapes ≡ true → names_in s.input.escapes < most_names →
    reads_escapes s.reading ≡ true → s.input.ahead ≡ [] →
    let escape : List ℕ = backslash ∷ bytes in
    s.tape ≡ items_then (map OneByte escape) tape → CutsLine (front tape) →
    let read : State = with_nothing_read (length escape) [] (with_source_behind tape s) in
    IsWithin l s → IsWithin l read → after l (length escape + 1) s ≡ read

-- the escape of a character without a name
abbrev pub nameless_character : List ℕ
nameless_character = backslash ∷ 40 ∷ []

-- a character without a name was told on a text line, which is no blank line then
abbrev pub with_no_character : TextLine → State → State
with_no_character line s = record s {
  reading = InText (record line { has_other = true });
  messages = s.messages ++ message_lines s.input.line (UnknownCharacter Nothing ∷ []);
}

-- The escape of a character, `\(`, that is cut so on a text line is told as one that is unknown, and prints nothing.
abbrev pub NamelessCharactersAreTold : Type 0
NamelessCharactersAreTold =
    (l : Limits) (s : State) (line : TextLine) (rest : List (Ahead PageEvent)) →
    TakesItems s → s.reading ≡ InText line → s.input.escapes ≡ [] →
    s.input.ahead ≡ map ByteAhead nameless_character ++ ByteAhead newline ∷ rest →
    let read : State = with_no_character line (with_nothing_read 2 (ByteAhead newline ∷ rest) s) in
    IsWithin l s → IsWithin l read → after l 3 s ≡ read

-- and so it is where it stands in the source itself, before a newline or at the end of all input
abbrev pub NamelessCharactersOfTheSourceAreTold : Type 0
NamelessCharactersOfTheSourceAreTold =
    (l : Limits) (s : State) (line : TextLine) (tape : Tape) →
    TakesItems s → s.reading ≡ InText line → s.input.escapes ≡ [] → s.input.ahead ≡ [] →
    s.tape ≡ items_then (map OneByte nameless_character) tape → CutsLine (front tape) →
    let read : State = with_no_character line (with_nothing_read 2 [] (with_source_behind tape s)) in
    IsWithin l s → IsWithin l read → after l 3 s ≡ read
