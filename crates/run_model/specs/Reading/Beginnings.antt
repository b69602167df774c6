-- Where a line begins, or a branch: control lines and text lines (manual, sections 1.1, 4.2 and 16).
use Rattle.std.specs.Prelude.{ℕ, true, false, List, [], ◌∷◌, Some, None, Option, if◌then◌else◌, ◌==◌}
use Rattle.page_model.specs.declared.event.Event.TheVariants.{Resume}
use Rattle.input_source.specs.Bytes.{newline, blank, apostrophe, dot}
use Rattle.input_model.specs.Input.{holding_text}
use Rattle.input_escapes.specs.declared.escapes.NameUse.{NameUse}
use Rattle.input_escapes.specs.declared.escapes.NameUse.TheVariants.{Character, Font, LeftOut as NameLeftOut}
use Rattle.input_escapes.specs.declared.open_escape.CopyUnit.TheVariants.{Byte, Kept}
use Rattle.input_escapes.specs.declared.open_escape.Found.{Found}
use Rattle.input_escapes.specs.declared.open_escape.Found.TheVariants.{GoesOn, Unit, Holds, Escape, Asks, Motion, Measures, Tells, Decides}
use Rattle.input_escapes.specs.declared.open_escape.Surroundings.{Surroundings}
use Rattle.run_model.specs.declared.line_state.LineState.{LineState}
use Rattle.run_model.specs.declared.line_state.LineState.TheVariants.{LineStart, Branch, Braced, Control}
use Rattle.run_model.specs.declared.line_state.TextLine.{TextLine}
use Rattle.run_model.specs.Reading.Escapes.{measuring, asking}
use Rattle.run_model.specs.Reading.Items.{PageInput, Taking, going_on, behind_events, telling}
use Rattle.run_model.specs.Reading.TextLines.{fresh_line, on_line, other_taking, motion_taking, text_taking, left_out_taking, escape_taking, character_taking}
use Rattle.run_model.specs.Registers.{Known}
use Rattle.run_model.specs.Requests.{PageEvent, Text}

-- a text line that begins: the interrupted one, if one is to go on
abbrev pub line_begun_as : Option TextLine → TextLine
line_begun_as None = fresh_line
line_begun_as (Some line) = line

-- that it goes on is told
abbrev pub going_on_told : Option TextLine → List PageEvent
going_on_told None = []
going_on_told (Some line) = Text Resume ∷ []

-- a text line begins, and does this (manual, section 4.2: the line that was interrupted goes on)
abbrev pub beginning_text : Known → (TextLine → Taking) → Taking
beginning_text k does = behind_events (going_on_told k.interrupted) (does (line_begun_as k.interrupted))

-- how the first byte of a line is read
abbrev pub at_start : Known → Surroundings
at_start k = on_line k (line_begun_as k.interrupted)

-- the same where a line begins, or a branch: what is read in the escape's place leaves it there
abbrev pub first_name : Known → PageInput → LineState → NameUse → Option (List ℕ) → Taking
first_name k i reading Character name = beginning_text k (λ line. character_taking i line name)
first_name k i reading Font name = beginning_text k (λ line. other_taking i line)
first_name k i reading (NameLeftOut b) name = beginning_text k (λ line. left_out_taking i line b)
first_name k i reading purpose name = asking k i reading purpose name

-- the first byte of a line
abbrev pub line_begun : Known → PageInput → ℕ → Taking
line_begun k i b =
    if b == dot then going_on i (Control true)
    else if b == apostrophe then going_on i (Control false)
    else beginning_text k (λ line. text_taking i line b)

-- a byte where a line begins, or a branch, or its rest behind its brace: there blanks come first, and a newline behind
-- the brace
abbrev pub first_taking : Known → PageInput → LineState → ℕ → Taking
first_taking k i Branch b = if b == blank then going_on i Branch else line_begun k i b
first_taking k i Braced b =
    if b == blank then going_on i Braced
    else if b == newline then going_on i LineStart
    else line_begun k i b
first_taking k i (_) b = line_begun k i b

-- an escape that begins a text line
abbrev pub escape_begun : Known → PageInput → ℕ → Taking
escape_begun k i b = beginning_text k (λ line. escape_taking i line b)

-- an escape there: the brace of a branch; a backslash and a newline, behind which a line or a branch begins still; and a newline
-- behind the brace
abbrev pub first_escape : Known → PageInput → LineState → ℕ → Taking
first_escape k i Branch b =
    if b == 123 then going_on i Braced
    else if b == newline then going_on i Branch
    else escape_begun k i b
first_escape k i (_) b = if b == newline then going_on i LineStart else escape_begun k i b

-- What was found where a line begins, or a branch: an interpolation leaves it at its beginning. Text gives no kept unit,
-- and decides nothing.
abbrev pub beginning_found : Known → PageInput → LineState → Found → Taking
beginning_found k i reading GoesOn = going_on i reading
beginning_found k i reading (Unit (Byte b)) = first_taking k i reading b
beginning_found k i reading (Unit (Kept b)) = first_escape k i reading b
beginning_found k i reading (Holds unit) = going_on (holding_text unit i) reading
beginning_found k i reading (Escape b) = first_escape k i reading b
beginning_found k i reading (Asks purpose name) = first_name k i reading purpose name
beginning_found k i reading (Motion columns remark) = beginning_text k (λ line. motion_taking i line columns remark)
beginning_found k i reading (Measures width) = measuring i reading width
beginning_found k i reading (Tells remark) = telling i reading remark
beginning_found k i reading (Decides decision freed) = going_on i reading
