-- Text lines: glyphs, blanks, tabs and escapes (manual, sections 4.1, 4.2, 9.1, 10.1 and 11.1).
use Rattle.std.specs.Prelude.{ℕ, ℤ, pos, ◌+◌, true, false, ◌||◌, List, [], ◌∷◌, ◌++◌, map, min, Some, None, Option, if◌then◌else◌, ◌==◌}
use Rattle.page_model.specs.declared.event.Event.TheVariants.{Print, Tab, WordEnd, Gap, LineEnd, Count, Break}
use Rattle.page_model.specs.declared.glyph.Glyph.{Glyph}
use Rattle.page_model.specs.declared.glyph.Glyph.TheVariants.{Printed, Blanks}
use Rattle.input_source.specs.Bytes.{tab, newline, blank, backslash, is_silent}
use Rattle.input_escapes.specs.Characters.{character}
use Rattle.input_escapes.specs.Escapes.{escape_of}
use Rattle.input_model.specs.Input.{holding_text}
use Rattle.input_escapes.specs.declared.escapes.Escape.{Escape as Kind}
use Rattle.input_escapes.specs.declared.escapes.Escape.TheVariants.{Prints, Blank, NoWidth, Tab as GivesTab, Interrupts, Brace, LeftOut as IsLeftOut, Text as BeginsText}
use Rattle.input_escapes.specs.declared.escapes.NameUse.{NameUse}
use Rattle.input_escapes.specs.declared.escapes.NameUse.TheVariants.{Character, Font, LeftOut as NameLeftOut}
use Rattle.input_escapes.specs.declared.escapes.TextUse.TheVariants.{LeftOut as LeftOutText}
use Rattle.input_escapes.specs.declared.open_escape.CopyUnit.TheVariants.{Byte, Kept}
use Rattle.input_escapes.specs.declared.open_escape.Found.{Found}
use Rattle.input_escapes.specs.declared.open_escape.Found.TheVariants.{GoesOn, Unit, Holds, Escape, Asks, Motion, Measures, Tells, Decides}
use Rattle.input_escapes.specs.declared.open_escape.Remark.{Remark}
use Rattle.input_escapes.specs.declared.open_escape.Surroundings.{Surroundings}
use Rattle.input_escapes.specs.declared.open_escape.Surroundings.TheVariants.{Text as AboveText}
use Rattle.page_model.specs.declared.layout_event.LayoutEvent.TheVariants.{Space}
use Rattle.run_model.specs.Messages.{character_name, remark_messages}
use Rattle.run_model.specs.declared.message.Message.{Message}
use Rattle.run_model.specs.declared.message.Message.TheVariants.{LeftOut, UnknownCharacter}
use Rattle.run_model.specs.declared.line_state.LineState.{LineState}
use Rattle.run_model.specs.declared.line_state.LineState.TheVariants.{LineStart, Text as InText, Dropped}
use Rattle.run_model.specs.declared.line_state.TextLine.{TextLine}
use Rattle.run_model.specs.Reading.Escapes.{measuring, asking}
use Rattle.run_model.specs.Reading.Items.{PageInput, Taking, going_on, meaning_events, telling}
use Rattle.run_model.specs.Registers.{Known, in_units}
use Rattle.roff_num.specs.Ranges.{greatest_number}
use Rattle.run_model.specs.Requests.{PageEvent, Text, Page, Interrupt, saying}

-- a text line on which nothing stands
abbrev pub fresh_line : TextLine
fresh_line = record { has_glyph = false; has_other = false; has_brace = false; leading = 0 }

-- a line of blanks alone: a break and a blank line
abbrev pub blank_line : List PageEvent
blank_line = Text WordEnd ∷ Text Break ∷ Page (Space 1) ∷ []

-- the end of a text line: one on which nothing but braces and blanks stand does nothing
abbrev pub text_line_end : TextLine → List PageEvent
text_line_end line =
    if line.has_glyph || line.has_other then Text WordEnd ∷ Text LineEnd ∷ Text Count ∷ []
    else if line.has_brace then []
    else blank_line

-- the leading blanks, as a glyph of their own
abbrev pub leading_glyph : ℕ → List PageEvent
leading_glyph n = if n == 0 then [] else Text (Print (Blanks n)) ∷ []

-- a blank behind so many others at a line's beginning: the first of them is a break
abbrev pub leading_blank_events : ℕ → List PageEvent
leading_blank_events before = if before == 0 then Text WordEnd ∷ Text Break ∷ [] else []

-- The place on the input line behind what is told of it and these leading blanks, in basic units (manual, section 11.1:
-- `\h'|N'`).
abbrev pub place_behind : Known → ℕ → ℤ
place_behind k leading = pos (min (in_units (k.place + leading)) greatest_number)

-- how the bytes of a text line are read
abbrev pub on_line : Known → TextLine → Surroundings
on_line k line = AboveText (place_behind k line.leading)

-- glyphs of a text line, behind the leading blanks
abbrev pub glyphs_taking : PageInput → TextLine → List Glyph → Taking
glyphs_taking i line glyphs =
    meaning_events i (InText (record line { has_glyph = true; leading = 0 }))
    (leading_glyph line.leading ++ map (λ glyph. Text (Print glyph)) glyphs)

-- one glyph
abbrev pub glyph_taking : PageInput → TextLine → Glyph → Taking
glyph_taking i line glyph = glyphs_taking i line (glyph ∷ [])

-- a tab: a glyph that moves to the next tab stop (manual, section 9.1)
abbrev pub tab_taking : PageInput → TextLine → Taking
tab_taking i line =
    meaning_events i (InText (record line { has_glyph = true; leading = 0 })) (leading_glyph line.leading ++ Text Tab ∷ [])

-- the escape that interrupts the line: the rest of it is dropped, and the next text line goes on (manual, section 4.2)
abbrev pub interrupt_taking : PageInput → TextLine → Taking
interrupt_taking i line = meaning_events i Dropped (Interrupt (record line { has_other = true }) ∷ [])

-- something of a text line that prints nothing, and makes the line more than blanks
abbrev pub other_taking : PageInput → TextLine → Taking
other_taking i line = going_on i (InText (record line { has_other = true }))

-- a brace of a text line: it prints nothing
abbrev pub brace_taking : PageInput → TextLine → Taking
brace_taking i line = going_on i (InText (record line { has_brace = true }))

-- something that prints nothing, and of which this is said
abbrev pub told_taking : PageInput → TextLine → Message → Taking
told_taking i line message = record {
  input = i;
  reading = InText (record line { has_other = true });
  effect = saying (message ∷ []) [];
}

-- a motion of so many columns along a text line, and what is said of it: a glyph, however long it is
abbrev pub motion_taking : PageInput → TextLine → ℕ → Option Remark → Taking
motion_taking i line columns remark = record {
  input = i;
  reading = InText (record line { has_glyph = true; leading = 0 });
  effect = saying (remark_messages remark) (leading_glyph line.leading ++ Text (Print (Blanks columns)) ∷ []);
}

-- a count of leading blanks above this reads as this
abbrev pub most_leading : ℕ
most_leading = 2147483647

-- a blank of a text line: before the first glyph a leading one, and else a gap
abbrev pub blank_taking : PageInput → TextLine → Taking
blank_taking i line =
    if line.has_glyph then meaning_events i (InText line) (Text WordEnd ∷ Text (Gap 1) ∷ [])
    else
    meaning_events i (InText (record line { leading = min (line.leading + 1) most_leading }))
    (leading_blank_events line.leading)

-- a byte of a text line
abbrev pub text_taking : PageInput → TextLine → ℕ → Taking
text_taking i line b =
    if b == newline then meaning_events i LineStart (text_line_end line)
    else if b == tab then tab_taking i line
    else if is_silent b then other_taking i line
    else if b == blank then blank_taking i line
    else glyph_taking i line (Printed b)

-- an escape that is left out: it is told by its first two bytes
abbrev pub left_out_taking : PageInput → TextLine → ℕ → Taking
left_out_taking i line b = told_taking i line (LeftOut (backslash ∷ b ∷ []))

-- an escape of a text line without a name, by what it is; a comment that ended gives nothing
abbrev pub escape_meant : PageInput → TextLine → ℕ → Kind → Taking
escape_meant i line b (Prints byte) = glyph_taking i line (Printed byte)
escape_meant i line b Blank = glyph_taking i line (Blanks 1)
escape_meant i line b NoWidth = glyph_taking i line (Blanks 0)
escape_meant i line b GivesTab = tab_taking i line
escape_meant i line b Interrupts = interrupt_taking i line
escape_meant i line b Brace = brace_taking i line
escape_meant i line b IsLeftOut = left_out_taking i line b
escape_meant i line b (BeginsText (LeftOutText byte)) = left_out_taking i line byte
escape_meant i line b (_) = other_taking i line

-- the same by the byte behind its backslash
abbrev pub escape_taking : PageInput → TextLine → ℕ → Taking
escape_taking i line b = escape_meant i line b (escape_of b)

-- a character of a text line, by its text, if one has the name
abbrev pub character_printed : PageInput → TextLine → Option (List ℕ) → Option (List ℕ) → Taking
character_printed i line name (Some text) = glyphs_taking i line (map Printed text)
character_printed i line name None = told_taking i line (UnknownCharacter (character_name name))

-- and by its name, if there is one
abbrev pub character_taking : PageInput → TextLine → Option (List ℕ) → Taking
character_taking i line (Some name) = character_printed i line (Some name) (character name)
character_taking i line None = character_printed i line None None

-- the name behind an escape of a text line; where something is read in the escape's place this is read on
abbrev pub name_taking : Known → PageInput → LineState → TextLine → NameUse → Option (List ℕ) → Taking
name_taking k i reading line Character name = character_taking i line name
name_taking k i reading line Font name = other_taking i line
name_taking k i reading line (NameLeftOut b) name = left_out_taking i line b
name_taking k i reading line purpose name = asking k i reading purpose name

-- what was found of a text line
abbrev pub text_found : Known → PageInput → TextLine → Found → Taking
text_found k i line GoesOn = going_on i (InText line)
text_found k i line (Unit (Byte b)) = text_taking i line b
text_found k i line (Unit (Kept b)) = escape_taking i line b
text_found k i line (Holds unit) = going_on (holding_text unit i) (InText line)
text_found k i line (Escape b) = escape_taking i line b
text_found k i line (Asks purpose name) = name_taking k i (InText line) line purpose name
text_found k i line (Motion columns remark) = motion_taking i line columns remark
text_found k i line (Measures width) = measuring i (InText line) width
text_found k i line (Tells remark) = telling i (InText line) remark
text_found k i line (Decides decision freed) = going_on i (InText line)
