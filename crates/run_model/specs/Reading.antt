-- What each byte does where something is being read (manual, sections 1.1, 4.1, 7, 8, 10.1, 14 and 16).
pub mod Items
pub mod TextLines
pub mod Beginnings
pub mod Escapes
pub mod Units
pub mod Arguments
pub mod Strings
pub mod Definitions
pub mod DefinedLines
pub mod Branches
pub mod Calls
pub mod Returns
pub mod Messages
pub mod Titles
pub mod Collecting
pub mod ControlLines
pub mod Found
pub mod Ends
pub mod Waiting
use Rattle.std.specs.Prelude.{◌≡◌, ℕ, ◌&&◌, ◌||◌, Bool, true, false, Some, None, if◌then◌else◌, ◌==◌}
use Rattle.page_model.specs.Words.{is_empty}
use Rattle.input_source.specs.Bytes.{tab, blank, is_dropped}
use Rattle.input_escapes.specs.OpenEscapes.{byte_read, reading_ended}
use Rattle.run_model.specs.declared.line_state.LineState.{LineState}
use Rattle.run_model.specs.declared.line_state.LineState.TheVariants.{Control, Name, Skipping, Dropped, Told, Exiting, Title as InTitle}
use Rattle.run_model.specs.Reading.Branches.{skipping_taking}
use Rattle.run_model.specs.Reading.ControlLines.{dropped_taking, ends_name, name_ended_taking, name_whole_taking}
use Rattle.run_model.specs.Reading.Items.{PageInput, Taking, going_on}
use Rattle.run_model.specs.Reading.Found.{place_in, read_in}
use Rattle.run_model.specs.Reading.Titles.{behind_part}
use Rattle.run_model.specs.Reading.Units.{interrupted}
use Rattle.run_model.specs.Registers.{Known}

-- a byte of a title, which is a delimiter or not
abbrev pub title_read : Known → PageInput → ℕ → ℕ → Bool → Taking
title_read k i delimiter b true = behind_part i delimiter k.registers.title.part
title_read k i delimiter b false = read_in k (InTitle delimiter) i (byte_read (place_in k (InTitle delimiter)) i.escapes b)

-- a byte that isn't dropped: within a title the delimiter is looked for where nothing is half read
abbrev pub undropped_taking : Known → LineState → PageInput → ℕ → Taking
undropped_taking k (Control breaks) i b =
    if b == blank || b == tab then going_on i (Control breaks)
    else if ends_name b then dropped_taking i b
    else going_on i (Name breaks b)
undropped_taking k (Name breaks first) i b =
    if ends_name b then name_ended_taking k i breaks (record { first = first; second = None }) b
    else name_whole_taking i breaks (record { first = first; second = Some b })
undropped_taking k (Skipping opened closed behind) i b = skipping_taking i opened closed behind b
undropped_taking k Dropped i b = dropped_taking i b
undropped_taking k (Told aborts) i b = going_on i (Told aborts)
undropped_taking k Exiting i b = going_on i Exiting
undropped_taking k (InTitle delimiter) i b = title_read k i delimiter b (is_empty i.escapes && b == delimiter)
undropped_taking k reading i b = read_in k reading i (byte_read (place_in k reading) i.escapes b)

-- what a byte does where this is being read
abbrev pub byte_taking : Known → LineState → PageInput → ℕ → Taking
byte_taking k reading i b = if is_dropped b then going_on (interrupted reading i) reading else undropped_taking k reading i b

-- a byte changes nothing where this is read
abbrev pub Passes : LineState → ℕ → Type 0
Passes reading b = (k : Known) (i : PageInput) → byte_taking k reading i b ≡ going_on i reading

-- what is half read ends before what stays, or at the input's end
abbrev pub escape_ended : Known → LineState → PageInput → Taking
escape_ended k reading i = read_in k reading i (reading_ended (place_in k reading) i.escapes)
