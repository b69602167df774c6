-- Laws of what is read in the place of an escape, of what that costs, and of the source behind it (manual, sections 8 and
-- 16).
use Rattle.std.specs.Prelude.{◌≡◌, ℕ, ◌+◌, ◌<◌, Bool, true, false, not, ◌||◌, List, [], ◌∷◌, ◌++◌, length, map, sum_by, IsTrue, Option, Some, None, ◌==◌}
use Rattle.roff_num.specs.declared.limits.Limits.{Limits}
use Rattle.input_source.specs.Bytes.{newline, backslash, is_dropped}
use Rattle.input_escapes.specs.EscapeLaws.{is_special, short_escape, long_escape, string_escape, argument_escape}
use Rattle.input_escapes.specs.OpenEscape.{OpenEscape, Backslash, Comment, Name as OpenName, Size, Delimited, Width, Condition, names_in}
use Rattle.input_escapes.specs.OpenEscapes.{most_names}
use Rattle.input_model.specs.Input.{Ahead, ByteAhead, pushing, item_taken, cost, counting}
use Rattle.input_model.specs.Input.Calls.{arguments_live}
use Rattle.input_model.specs.Input.Names.{body_named}
use Rattle.input_escapes.specs.declared.escapes.NameUse.{NameUse}
use Rattle.input_escapes.specs.declared.escapes.NameUse.TheVariants.{Register, Text as OfText, Argument}
use Rattle.input_escapes.specs.declared.open_escape.ConditionPart.{ConditionPart}
use Rattle.input_escapes.specs.declared.open_escape.ConditionPart.TheVariants.{Choice, Expression, Compared, Decided}
use Rattle.input_source.specs.Tape.{Tape, OneByte, front, items_then}
use Rattle.roff_num.specs.declared.direction.Direction.{Direction}
use Rattle.run_model.specs.Within.{IsWithin}
use Rattle.run_model.specs.Messages.{message_lines}
use Rattle.run_model.specs.Reading.Units.{interrupted}
use Rattle.run_model.specs.Reading.Escapes.{argument_named}
use Rattle.run_model.specs.Reading.Items.{PageInput}
use Rattle.run_model.specs.Registers.{Known, StepBy, changed_by, known_stepped, page_stepped, step_messages, text_of_register}
use Rattle.run_model.specs.Requests.Effects.{page_numbered}
use Rattle.run_model.specs.PageEvents.{PageEvent}
use Rattle.run_model.specs.Run.{State, known, answered, item_read, step, after, source_answer}
use Rattle.run_model.specs.declared.line_state.LineState.{LineState}
use Rattle.run_model.specs.declared.line_state.LineState.TheVariants.{LineStart, Branch, Braced, Text as InText, Control, Name, Deciding, Skipping, Dropped, Told, Exiting, TitleFront, Title as InTitle, Collecting}
use Rattle.run_model.specs.ItemsTaken.{TakesItems}

-- where nothing is ahead and nothing is half read, the unread input is the source's tape, or it has ended where it is closed
abbrev pub UnreadInputIsTheTape : Type 0
UnreadInputIsTheTape =
    (l : Limits) (s : State) → s.input.ahead ≡ [] → s.input.escapes ≡ [] → item_read l s ≡ answered l (source_answer s) s

-- and a step of a run that takes items is what the tape's front says
abbrev pub StepsFollowTheTape : Type 0
StepsFollowTheTape =
    (l : Limits) (s : State) → TakesItems s → s.input.ahead ≡ [] → s.input.escapes ≡ [] → step l s ≡ answered l (front s.tape) s

-- a byte that stands for itself wherever bytes are read: it isn't dropped, doesn't end the line, and begins no escape
abbrev pub StandsForItself : ℕ → Type 0
StandsForItself b = IsTrue (not (b == backslash || (is_dropped b || b == newline)))

-- an escape that is read as a text, by what its name is for: a register, `\nx`, `\n(xy`, or with a sign for the step that
-- is made first; a string, `\*x` or `\*(xy`; or an argument, `\$x`
pub data IsEscapeOf : NameUse → List ℕ → List ℕ → Type 0 where
  Short : (step : Option Direction) (x : ℕ) → StandsForItself x → is_special x ≡ false
      → IsEscapeOf (Register step) (x ∷ []) (short_escape step x)
  Long : (step : Option Direction) (x y : ℕ) → StandsForItself x → StandsForItself y
      → IsEscapeOf (Register step) (x ∷ y ∷ []) (long_escape step x y)
  ShortString : (x : ℕ) → StandsForItself x → (x == 40) ≡ false → IsEscapeOf OfText (x ∷ []) (string_escape (x ∷ []))
  LongString : (x y : ℕ) → StandsForItself x → StandsForItself y
      → IsEscapeOf OfText (x ∷ y ∷ []) (string_escape (40 ∷ x ∷ y ∷ []))
  OfArgument : (x : ℕ) → StandsForItself x → IsEscapeOf Argument (x ∷ []) (argument_escape x)

-- whether text is read: where a line or a branch begins, and behind it
abbrev pub reads_text : LineState → Bool
reads_text LineStart = true
reads_text Branch = true
reads_text Braced = true
reads_text (InText line) = true
reads_text (Control breaks) = false
reads_text (Name breaks first) = false
reads_text (Collecting purpose) = false
reads_text (Deciding keeps) = false
reads_text (Skipping opened closed behind) = false
reads_text Dropped = false
reads_text (Told aborts) = false
reads_text Exiting = false
reads_text TitleFront = false
reads_text (InTitle delimiter) = false

-- whether escapes are read: those of text, those among the arguments of a request or a call, those of conditions, those of a
-- string's name and text, and those of the text of a message or a definition. Of those of titles no law speaks.
abbrev pub reads_escapes : LineState → Bool
reads_escapes LineStart = true
reads_escapes Branch = true
reads_escapes Braced = true
reads_escapes (InText line) = true
reads_escapes (Control breaks) = false
reads_escapes (Name breaks first) = false
reads_escapes (Collecting purpose) = true
reads_escapes (Deciding keeps) = true
reads_escapes (Skipping opened closed behind) = false
reads_escapes Dropped = false
reads_escapes (Told aborts) = false
reads_escapes Exiting = false
reads_escapes TitleFront = false
reads_escapes (InTitle delimiter) = false

-- whether a backslash of a condition begins an escape: not where it delimits texts, nor once the condition is read
abbrev pub reads_in_condition : ConditionPart → Bool
reads_in_condition (Choice negated) = true
reads_in_condition (Expression negated) = true
reads_in_condition (Compared negated d first) = not (backslash == d)
reads_in_condition (Decided decision freed) = false

-- whether an escape is read as a text above these: names within each other, alone or above a condition that reads escapes
abbrev pub reads_above : List OpenEscape → Bool
reads_above [] = true
reads_above (Backslash ∷ rest) = false
reads_above (Comment ∷ rest) = false
reads_above (OpenName purpose part ∷ rest) = reads_above rest
reads_above (Size part ∷ rest) = false
reads_above (Delimited purpose delimiter text ∷ rest) = false
reads_above (Width delimiter width is_deep ∷ rest) = false
reads_above (Condition part text ∷ rest) = reads_in_condition part

-- where a register is stepped before it is read: what is wrong with the step is told
abbrev pub stepped : NameUse → List ℕ → State → State
stepped (Register (Some direction)) name s = record s {
  registers = changed_by (StepBy name direction) s.registers;
  messages = s.messages ++ message_lines s.input.line (step_messages (Some direction) name (known s));
  to_do = page_numbered (page_stepped (Some direction) name (known s)) ++ s.to_do;
}
stepped (_) name s = s

-- the text that is read in the place of an escape: a register's behind its step, the body of a string's name, or the argument of
-- that number of the innermost body that a line called
abbrev pub text_named : Known → PageInput → NameUse → List ℕ → List ℕ
text_named k i (Register step) name = text_of_register (known_stepped step name k) name
text_named k i OfText name = body_named name i
text_named k i Argument name = argument_named name (arguments_live i)
text_named k i (_) name = []

-- Behind a step, if there is one, such a text and its end stand in front of the rest, and so many bytes more were taken. What
-- isn't a byte of the line has come: among arguments, and in a string's name, no quote follows the quote before it.
abbrev pub with_text_ahead : NameUse → List ℕ → ℕ → List (Ahead PageEvent) → State → State
with_text_ahead purpose name taken rest s = record (stepped purpose name s) {
  input =
      pushing (text_named (known s) s.input purpose name)
      (record (interrupted s.reading s.input) { ahead = rest; charge = s.input.charge + taken });
}

-- Reading such an escape is reading its text, the text's end, and what stood behind the escape. So it
-- is where nothing is half read, and also within names, if fewer than may be, and conditions: they stay half read. What is
-- read stays too: a line that begins with an escape still begins behind it.
abbrev pub EscapesReadAsTexts : Type 0
EscapesReadAsTexts =
    (l : Limits) (s : State) (purpose : NameUse) (name escape : List ℕ) (rest : List (Ahead PageEvent)) →
    IsEscapeOf purpose name escape → TakesItems s → reads_above s.input.escapes ≡ true → names_in s.input.escapes < most_names →
    reads_escapes s.reading ≡ true → s.input.ahead ≡ map ByteAhead escape ++ rest →
    let read : State = with_text_ahead purpose name (length escape) rest s in
    IsWithin l s → IsWithin l read → after l (length escape) s ≡ read

-- so many bytes of the source were taken: messages tell the line on which they stand
abbrev pub with_source_behind : Tape → State → State
with_source_behind tape s = record s { tape = tape; input = record s.input { line = s.input.newlines + 1 } }

-- and so it is where the escape stands in the source itself, with nothing ahead of it
abbrev pub EscapesOfTheSourceReadAsTexts : Type 0
EscapesOfTheSourceReadAsTexts =
    (l : Limits) (s : State) (purpose : NameUse) (name escape : List ℕ) (tape : Tape) →
    IsEscapeOf purpose name escape → TakesItems s → reads_above s.input.escapes ≡ true → names_in s.input.escapes < most_names →
    reads_escapes s.reading ≡ true → s.input.ahead ≡ [] → s.tape ≡ items_then (map OneByte escape) tape →
    let read : State = with_text_ahead purpose name (length escape) [] (with_source_behind tape s) in
    IsWithin l s → IsWithin l read → after l (length escape) s ≡ read

-- So it is where text is read and nothing is half read: `\nx` is three steps, and `\n(xy` five, and but for the input
-- nothing changes.
abbrev pub EscapesOfTextReadAsTexts : Type 0
EscapesOfTextReadAsTexts =
    (l : Limits) (s : State) (name escape : List ℕ) (rest : List (Ahead PageEvent)) →
    IsEscapeOf (Register None) name escape → TakesItems s → reads_text s.reading ≡ true → s.input.escapes ≡ [] →
    s.input.ahead ≡ map ByteAhead escape ++ rest →
    let text : List ℕ = text_of_register (known s) name in
    let read : State =
    record s { input = pushing text (record s.input { ahead = rest; charge = s.input.charge + length escape }) } in
    IsWithin l s → IsWithin l read → after l (length escape) s ≡ read

-- a byte of a pushed text costs what a byte of the source does
abbrev pub PushedBytesCostAsOthers : Type 0
PushedBytesCostAsOthers =
    (i : PageInput) (b c : ℕ) (behind : List (Ahead PageEvent))
    → (item_taken (ByteAhead b) behind i).charge ≡ (counting c i).charge

-- what several items ahead cost
abbrev pub cost_of_all : List (Ahead PageEvent) → ℕ
cost_of_all items = sum_by cost items

-- a text that is put in front costs its bytes, and its end one more
abbrev pub TextsCostTheirBytesAndOne : Type 0
TextsCostTheirBytesAndOne =
    (text : List ℕ) (i : PageInput) → cost_of_all (pushing text i).ahead ≡ length text + 1 + cost_of_all i.ahead
