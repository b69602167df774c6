-- How a byte is read above what is read, and what does that which was found there.
use Rattle.std.specs.Prelude.{pos, if◌then◌else◌}
use Rattle.input_escapes.specs.OpenEscapes.{Reads}
use Rattle.input_escapes.specs.declared.open_escape.Found.{Found}
use Rattle.input_escapes.specs.declared.open_escape.Surroundings.{Surroundings}
use Rattle.input_escapes.specs.declared.open_escape.Surroundings.TheVariants.{Text as AboveText, Arguments as AboveArguments, Copy as AboveCopy}
use Rattle.run_model.specs.Reading.Beginnings.{at_start, beginning_found}
use Rattle.run_model.specs.Reading.Branches.{condition_found}
use Rattle.run_model.specs.Reading.Collecting.{collected}
use Rattle.run_model.specs.Reading.DefinedLines.{definition_found}
use Rattle.run_model.specs.Reading.Items.{PageInput, Taking, going_on, read_by}
use Rattle.run_model.specs.Reading.TextLines.{on_line, text_found}
use Rattle.run_model.specs.Reading.Titles.{title_found}
use Rattle.run_model.specs.Reading.Units.{collects_arguments}
use Rattle.run_model.specs.Registers.{Known}
use Rattle.run_model.specs.declared.line_state.LineState.{LineState}
use Rattle.run_model.specs.declared.line_state.LineState.TheVariants.{LineStart, Branch, Braced, Text as InText, Control, Name, Deciding, Skipping, Dropped, Told, Exiting, TitleFront, Title as InTitle, Collecting}
use Rattle.run_model.specs.declared.purpose.Purpose.TheVariants.{Defining}

-- how a byte is read above what is read
abbrev pub place_in : Known → LineState → Surroundings
place_in k LineStart = at_start k
place_in k Branch = at_start k
place_in k Braced = at_start k
place_in k (InText line) = on_line k line
place_in k (Deciding keeps) = AboveArguments
place_in k TitleFront = AboveArguments
place_in k (Collecting purpose) = if collects_arguments purpose then AboveArguments else AboveCopy
place_in k (_) = AboveText (pos 0)

-- what does that which was found there: most lines collect units
abbrev pub found_in : Known → PageInput → LineState → Found → Taking
found_in k i LineStart found = beginning_found k i LineStart found
found_in k i Branch found = beginning_found k i Branch found
found_in k i Braced found = beginning_found k i Braced found
found_in k i (InText line) found = text_found k i line found
found_in k i (Deciding keeps) found = condition_found k i keeps found
found_in k i (Collecting (Defining name appends end matched)) found = definition_found k i name appends end matched found
found_in k i (InTitle delimiter) found = title_found k i delimiter found
found_in k i (Control breaks) found = going_on i (Control breaks)
found_in k i (Name breaks first) found = going_on i (Name breaks first)
found_in k i (Skipping opened closed behind) found = going_on i (Skipping opened closed behind)
found_in k i Dropped found = going_on i Dropped
found_in k i (Told aborts) found = going_on i (Told aborts)
found_in k i Exiting found = going_on i Exiting
found_in k i reading found = collected k i reading found

-- what something reads there does, with what is half read then
abbrev pub read_in : Known → LineState → PageInput → Reads → Taking
read_in k reading i r = read_by (λ j. found_in k j reading) i r
