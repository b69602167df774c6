-- What is due before anything more is taken, and the end of the input (manual, section 20).
use Rattle.std.specs.Prelude.{Bool, true, false, is_some, List, [], ◌∷◌, Some, None, Option}
use Rattle.page_model.specs.declared.event.Event.TheVariants.{Resume}
use Rattle.input_source.specs.Bytes.{newline}
use Rattle.input_model.specs.Input.Calls.{arguments_given}
use Rattle.run_model.specs.Reading.{undropped_taking}
use Rattle.run_model.specs.Reading.Definitions.{definition_cut}
use Rattle.run_model.specs.Reading.Items.{PageInput, Taking, meaning_events}
use Rattle.run_model.specs.Reading.Strings.{string_entered, string_line_ended}
use Rattle.run_model.specs.Reading.TextLines.{text_line_end}
use Rattle.run_model.specs.Reading.Titles.{title_ended}
use Rattle.roff_num.specs.ShortNames.{name_at}
use Rattle.run_model.specs.declared.line_state.Due.{Due}
use Rattle.run_model.specs.declared.line_state.Due.TheVariants.{Leaves, Tells as TellsText}
use Rattle.run_model.specs.declared.line_state.LineState.{LineState}
use Rattle.run_model.specs.declared.line_state.LineState.TheVariants.{LineStart, Braced, Control, Deciding, Skipping, Dropped, Told, Exiting, Title as InTitle, Collecting}
use Rattle.run_model.specs.declared.purpose.Purpose.TheVariants.{StringName, StringText, Defining}
use Rattle.run_model.specs.declared.line_state.TextLine.{TextLine}
use Rattle.run_model.specs.declared.phase.Phase.{Phase}
use Rattle.run_model.specs.declared.phase.Phase.TheVariants.{Reading, LastMacro, Closing}
use Rattle.run_model.specs.Registers.{Known}
use Rattle.run_model.specs.Requests.{PageEvent, Text}

-- What is due before anything more is taken, by what is read: a message whose line has ended is told, and may abort the
-- run; behind the line of `.ex` the input is left.
abbrev pub due : LineState → Option Due
due (Told aborts) = Some (TellsText aborts)
due Exiting = Some Leaves
due (_) = None

-- whether an interrupted line is to end where the input does: as the run closes none is
abbrev pub is_left : Phase → Option TextLine → Bool
is_left Reading line = is_some line
is_left LastMacro line = is_some line
is_left Closing line = false

-- whether a line is to end there: one of which something was read, or one that was interrupted and is to go on; the brace of a
-- branch alone is none
abbrev pub is_unfinished : Phase → Known → LineState → Bool
is_unfinished phase k LineStart = is_left phase k.interrupted
is_unfinished phase k Braced = is_left phase k.interrupted
is_unfinished phase k (_) = true

-- the end of an interrupted line that is to go on, if there is one
abbrev pub interrupted_end : Option TextLine → List PageEvent
interrupted_end None = []
interrupted_end (Some line) = Text Resume ∷ text_line_end line

-- a line ends with the input that means nothing more, and an interrupted one with it
abbrev pub last_line_ended : Known → PageInput → Taking
last_line_ended k i = meaning_events i LineStart (interrupted_end k.interrupted)

-- The end of the input: an unfinished line ends as by a newline, and so does an interrupted one that no text line went on with;
-- a title is placed, and a definition dropped.
abbrev pub end_taking : Known → LineState → PageInput → Taking
end_taking k LineStart i = last_line_ended k i
end_taking k Braced i = last_line_ended k i
end_taking k (Control breaks) i = last_line_ended k i
end_taking k (Deciding keeps) i = last_line_ended k i
end_taking k (Collecting (StringName appends)) i = last_line_ended k (string_line_ended i appends (name_at 0 (arguments_given i))).input
end_taking k (Collecting (StringText name appends is_front)) i = last_line_ended k (string_entered name appends i)
end_taking k (Skipping opened closed behind) i = last_line_ended k i
end_taking k Dropped i = last_line_ended k i
end_taking k (Told aborts) i = last_line_ended k i
end_taking k Exiting i = last_line_ended k i
end_taking k (Collecting (Defining name appends end matched)) i = definition_cut i name
end_taking k (InTitle delimiter) i = title_ended k i
end_taking k reading i = undropped_taking k reading i newline
