-- What is read waits for a byte where that decides what becomes of it (manual, sections 1.1, 7.2, 7.3 and 10.1).
use Rattle.std.specs.Prelude.{pos, List, [], ◌∷◌, if◌then◌else◌}
use Rattle.input_model.specs.Arguments.{is_behind_quote}
use Rattle.input_model.specs.declared.place.Place.{Place}
use Rattle.input_escapes.specs.OpenEscape.{OpenEscape}
use Rattle.input_escapes.specs.Waiting.{waiting_of}
use Rattle.input_escapes.specs.declared.open_escape.Surroundings.{Surroundings}
use Rattle.input_escapes.specs.declared.open_escape.Surroundings.TheVariants.{Text as AboveText, Copy as AboveCopy}
use Rattle.input_escapes.specs.declared.open_escape.Waiting.{Waiting}
use Rattle.input_escapes.specs.declared.open_escape.Waiting.TheVariants.{Takes, Waits}
use Rattle.run_model.specs.Reading.Items.{PageInput}
use Rattle.run_model.specs.Reading.Units.{collects_arguments}
use Rattle.run_model.specs.declared.line_state.LineState.{LineState}
use Rattle.run_model.specs.declared.line_state.LineState.TheVariants.{LineStart, Branch, Braced, Text as InText, Control, Name, Title as InTitle, Collecting}

-- how a backslash is read of what is read: as in a text line, whatever the place on it, and in titles, or in copy mode
abbrev pub copies_in : LineState → Surroundings
copies_in LineStart = AboveText (pos 0)
copies_in Branch = AboveText (pos 0)
copies_in Braced = AboveText (pos 0)
copies_in (InText line) = AboveText (pos 0)
copies_in (InTitle delimiter) = AboveText (pos 0)
copies_in (_) = AboveCopy

-- what arguments do: behind a quote another one is waited for
abbrev pub arguments_wait : Place → Waiting
arguments_wait place = if is_behind_quote place then Waits else Takes

-- what a line does of which nothing is half read: behind the dot the name is waited for, and behind its first byte the second
abbrev pub line_waits : LineState → Place → Waiting
line_waits (Control breaks) place = Waits
line_waits (Name breaks first) place = Waits
line_waits (Collecting purpose) place = if collects_arguments purpose then arguments_wait place else Takes
line_waits (_) place = Takes

-- what is read does at the next item, with these half read
abbrev pub waiting_above : LineState → Place → List OpenEscape → Waiting
waiting_above reading place [] = line_waits reading place
waiting_above reading place (half ∷ rest) = waiting_of (copies_in reading) (half ∷ rest)

-- what is read does at the next item: it takes that, or waits for a byte, or is whole and decides
abbrev pub waiting_in : LineState → PageInput → Waiting
waiting_in reading i = waiting_above reading i.arguments.place i.escapes
