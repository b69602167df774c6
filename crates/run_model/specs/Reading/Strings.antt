-- The strings that lines define: their names and their texts (manual, section 7).
use Rattle.std.specs.Prelude.{Bool, true, false, ◌&&◌, reverse, Some, None, Option, if◌then◌else◌, ◌==◌, []}
use Rattle.input_model.specs.Arguments.{no_arguments}
use Rattle.input_source.specs.Bytes.{newline, blank, quote}
use Rattle.input_escapes.specs.OpenEscape.{unit_bytes}
use Rattle.input_model.specs.Input.Names.{texts_of, calling, adding, entering}
use Rattle.input_model.specs.Input.Calls.{arguments_given}
use Rattle.input_escapes.specs.declared.open_escape.CopyUnit.{CopyUnit}
use Rattle.input_escapes.specs.declared.open_escape.CopyUnit.TheVariants.{Byte, Kept}
use Rattle.roff_store.specs.TextCalls.{Open, Set}
use Rattle.roff_store.specs.Texts.{Body, has_body}
use Rattle.run_model.specs.Reading.Items.{PageInput, Taking, going_on}
use Rattle.run_model.specs.Reading.Units.{holding, settling}
use Rattle.roff_num.specs.ShortNames.{name_at, name_bytes}
use Rattle.run_model.specs.declared.line_state.LineState.TheVariants.{LineStart, Collecting}
use Rattle.run_model.specs.declared.purpose.Purpose.TheVariants.{StringName, StringText}
use Rattle.roff_num.specs.declared.short_name.ShortName.{ShortName}

-- the name of a string, if the argument that gives it is whole
abbrev pub name_read : PageInput → Option (Option ShortName)
name_read i = name_at 0 (reverse i.arguments.whole)

-- the text of a string is begun, and the argument that gave its name is released; one without a name gets none
abbrev pub string_begun : Option ShortName → PageInput → PageInput
string_begun None i = record i { arguments = no_arguments }
string_begun (Some name) i = calling Open (record i { arguments = no_arguments })

-- a unit is put behind the text, if a name gets it
abbrev pub string_grown : Option ShortName → CopyUnit → PageInput → PageInput
string_grown None unit i = i
string_grown (Some name) unit i = adding (unit_bytes unit) i

-- the text is the string from now on, or is put behind it
abbrev pub string_entered : Option ShortName → Bool → PageInput → PageInput
string_entered None appends i = i
string_entered (Some name) appends i = entering (name_bytes name) appends i

-- a string without a text is empty; one that is appended to stays
abbrev pub string_emptied : Option ShortName → Bool → PageInput → PageInput
string_emptied None appends i = i
string_emptied (Some name) appends i =
    if appends && has_body (name_bytes name) (texts_of i) then i else calling (Set (name_bytes name) (Body [])) i

-- a unit of a string's text: in front of it blanks are dropped, and then one quote; a newline ends it
abbrev pub string_unit : PageInput → Option ShortName → Bool → Bool → CopyUnit → Taking
string_unit i name appends is_front (Byte b) =
    if b == newline then going_on (string_entered name appends i) LineStart
    else if is_front && b == blank then going_on i (Collecting (StringText name appends true))
    else if is_front && b == quote then going_on i (Collecting (StringText name appends false))
    else going_on (string_grown name (Byte b) i) (Collecting (StringText name appends false))
string_unit i name appends is_front (Kept b) = going_on (string_grown name (Kept b) i) (Collecting (StringText name appends false))

-- the line ends where its name is read: the string is without a text
abbrev pub string_line_ended : PageInput → Bool → Option (Option ShortName) → Taking
string_line_ended i appends None = going_on (record i { arguments = no_arguments }) LineStart
string_line_ended i appends (Some name) = going_on (string_emptied name appends (record i { arguments = no_arguments })) LineStart

-- behind a unit of the name: where the name is whole the text comes
abbrev pub string_name_behind : PageInput → Bool → Option (Option ShortName) → Taking
string_name_behind i appends None = going_on i (Collecting (StringName appends))
string_name_behind i appends (Some name) = going_on (string_begun name i) (Collecting (StringText name appends true))

-- a unit where the name may be whole: it is the text's first one, or one of the name
abbrev pub string_name_or_text : PageInput → Bool → CopyUnit → Option (Option ShortName) → Taking
string_name_or_text i appends unit None = string_name_behind (holding unit i) appends (name_read (holding unit i))
string_name_or_text i appends unit (Some name) = string_unit (string_begun name i) name appends true unit

-- a unit of a string's name, which is read as an argument is; one in quotes ends before all but a quote
abbrev pub string_name_unit : PageInput → Bool → CopyUnit → Taking
string_name_unit i appends (Byte b) =
    if b == newline then string_line_ended i appends (name_at 0 (arguments_given i))
    else if b == quote then string_name_or_text i appends (Byte b) (name_read i)
    else string_name_or_text (settling i) appends (Byte b) (name_read (settling i))
string_name_unit i appends (Kept b) = string_name_or_text (settling i) appends (Kept b) (name_read (settling i))
