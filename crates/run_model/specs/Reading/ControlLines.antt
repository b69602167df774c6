-- The names of control lines, and how what is behind one is read (manual, sections 1.1 and 7.2).
use Rattle.std.specs.Prelude.{ℕ, Bool, true, ◌||◌, if◌then◌else◌, ◌==◌, not, IsTrue}
use Rattle.input_source.specs.Bytes.{tab, newline, blank, backslash, is_dropped}
use Rattle.input_escapes.specs.OpenEscapes.{byte_read}
use Rattle.input_model.specs.Input.{choosing}
use Rattle.input_model.specs.Input.Calls.{last_result, without_last}
use Rattle.input_escapes.specs.declared.open_escape.Surroundings.TheVariants.{Arguments as AboveArguments, Copy as AboveCopy}
use Rattle.run_model.specs.declared.line_state.LineState.TheVariants.{LineStart, Deciding, Dropped, TitleFront, Collecting}
use Rattle.run_model.specs.declared.purpose.Purpose.TheVariants.{Arguments as InArguments, StringName, Telling, Calling}
use Rattle.roff_num.specs.declared.short_name.ShortName.{ShortName}
use Rattle.run_model.specs.declared.request.Request.{Request}
use Rattle.run_model.specs.declared.request.LineReading.{LineReading}
use Rattle.run_model.specs.declared.request.LineReading.TheVariants.{ByArguments, ByCondition, ByElse, ByLastLine, ByMessage, ByString, ByLines, ByTitle}
use Rattle.run_model.specs.declared.request.Called.{Called}
use Rattle.run_model.specs.declared.request.Called.TheVariants.{Request as ARequest, Body as ABody, Nothing as Unknown}
use Rattle.run_model.specs.Reading.Branches.{branch_of, branch_taking, condition_begun, reads_else}
use Rattle.run_model.specs.Reading.Collecting.{collected}
use Rattle.run_model.specs.Reading.Items.{PageInput, Taking, going_on, read_by}
use Rattle.run_model.specs.Registers.{Known}
use Rattle.run_model.specs.Requests.{called_by, row_of}

-- a byte of a dropped line
abbrev pub dropped_taking : PageInput → ℕ → Taking
dropped_taking i b = going_on i (if b == newline then LineStart else Dropped)

-- whether a byte ends a name, and doesn't belong to it
abbrev pub ends_name : ℕ → Bool
ends_name b = b == blank || (b == tab || (b == newline || b == backslash))

-- the first byte behind a request's name, by how its line is read
abbrev pub line_taking : Known → PageInput → Bool → Request → LineReading → ℕ → Taking
line_taking k i breaks request ByArguments b =
    read_by (λ j. collected k j (Collecting (InArguments breaks request))) i (byte_read AboveArguments i.escapes b)
line_taking k i breaks request (ByCondition keeps) b = condition_begun k i keeps b
line_taking k i breaks request (ByString appends) b =
    read_by (λ j. collected k j (Collecting (StringName appends))) i (byte_read AboveArguments i.escapes b)
line_taking k i breaks request ByLastLine b =
    read_by (λ j. collected k j (Collecting (InArguments breaks request))) i (byte_read AboveArguments i.escapes b)
line_taking k i breaks request (ByMessage aborts) b =
    read_by (λ j. collected k j (Collecting (Telling aborts true))) i (byte_read AboveCopy i.escapes b)
line_taking k i breaks request (ByLines lines) b =
    read_by (λ j. collected k j (Collecting (InArguments breaks request))) i (byte_read AboveArguments i.escapes b)
line_taking k i breaks request ByTitle b = read_by (λ j. collected k j TitleFront) i (byte_read AboveArguments i.escapes b)
line_taking k i breaks request ByElse b = branch_taking k (without_last i) (reads_else (last_result i)) b

-- a byte behind a name that stands for this: a request is read on, a body is called, and any other line is dropped
abbrev pub called_taking : Known → PageInput → Bool → Called → ℕ → Taking
called_taking k i breaks (ARequest request) b = line_taking k i breaks request (row_of request).line b
called_taking k i breaks (ABody name) b = read_by (λ j. collected k j (Collecting (Calling name))) i (byte_read AboveArguments i.escapes b)
called_taking k i breaks Unknown b = dropped_taking i b

-- a byte behind a name that it doesn't belong to
abbrev pub name_ended_taking : Known → PageInput → Bool → ShortName → ℕ → Taking
name_ended_taking k i breaks name b = called_taking k i breaks (called_by name i.names) b

-- what is read behind a request's name, by how its line is read: a condition, or the other branch of the last one whose
-- result was kept
abbrev pub behind_name : PageInput → Bool → Request → LineReading → Taking
behind_name i breaks request ByArguments = going_on i (Collecting (InArguments breaks request))
behind_name i breaks request (ByCondition keeps) = going_on (choosing i) (Deciding keeps)
behind_name i breaks request (ByString appends) = going_on i (Collecting (StringName appends))
behind_name i breaks request ByLastLine = going_on i (Collecting (InArguments breaks request))
behind_name i breaks request (ByMessage aborts) = going_on i (Collecting (Telling aborts true))
behind_name i breaks request (ByLines lines) = going_on i (Collecting (InArguments breaks request))
behind_name i breaks request ByTitle = going_on i TitleFront
behind_name i breaks request ByElse = going_on (without_last i) (branch_of (reads_else (last_result i)))

-- what is read behind a name that stands for this
abbrev pub behind_called : PageInput → Bool → Called → Taking
behind_called i breaks (ARequest request) = behind_name i breaks request (row_of request).line
behind_called i breaks (ABody name) = going_on i (Collecting (Calling name))
behind_called i breaks Unknown = going_on i Dropped

-- the last byte of a name of two bytes
abbrev pub name_whole_taking : PageInput → Bool → ShortName → Taking
name_whole_taking i breaks name = behind_called i breaks (called_by name i.names)

-- a byte of a name: it isn't dropped, and doesn't end the name
abbrev pub BelongsToName : ℕ → Type 0
BelongsToName b = IsTrue (not (is_dropped b || ends_name b))
