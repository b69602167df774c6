-- The lines of a macro's definition, and the one that ends it (manual, section 7.1).
use Rattle.std.specs.Prelude.{ℕ, Bool, true, List, ◌++◌, Some, None, Option}
use Rattle.input_escapes.specs.OpenEscape.{unit_bytes}
use Rattle.input_model.specs.Input.{beginning_line}
use Rattle.input_escapes.specs.declared.open_escape.CopyUnit.{CopyUnit}
use Rattle.input_escapes.specs.declared.open_escape.Found.{Found}
use Rattle.run_model.specs.Definitions.{end_mark, front_of, line_from, matched_behind}
use Rattle.run_model.specs.declared.definition.DefinitionLine.{DefinitionLine}
use Rattle.run_model.specs.declared.definition.DefinitionLine.TheVariants.{MayBeLast, IsLast, IsText}
use Rattle.run_model.specs.declared.line_state.LineState.TheVariants.{Collecting}
use Rattle.run_model.specs.declared.purpose.Purpose.TheVariants.{Defining}
use Rattle.roff_num.specs.declared.short_name.ShortName.{ShortName}
use Rattle.run_model.specs.Reading.ControlLines.{dropped_taking, name_ended_taking}
use Rattle.run_model.specs.Reading.Definitions.{definition_grown}
use Rattle.run_model.specs.Reading.Items.{PageInput, Taking, going_on}
use Rattle.run_model.specs.Reading.Strings.{string_entered}
use Rattle.run_model.specs.Reading.Units.{no_unit_found, unit_in, unit_or}
use Rattle.run_model.specs.Registers.{Known}

-- the line that ends a definition: the name behind its dot is called with the rest of the line, of which this is the first
-- byte; behind two dots the rest is dropped
abbrev pub behind_definition : Known → PageInput → Option ShortName → ℕ → Taking
behind_definition k i None b = dropped_taking i b
behind_definition k i (Some name) b = name_ended_taking k (beginning_line i) true name b

-- a unit of a definition's text, where its line is this
abbrev pub definition_unit : Known → PageInput → Option ShortName → Bool → Option ShortName → List ℕ → CopyUnit → DefinitionLine
    → Taking
definition_unit k i name appends end front unit (MayBeLast matched) = going_on i (Collecting (Defining name appends end (Some matched)))
definition_unit k i name appends end front unit (IsLast b) = behind_definition k (string_entered name appends i) end b
definition_unit k i name appends end front unit IsText =
    going_on (definition_grown name (front ++ unit_bytes unit) i) (Collecting (Defining name appends end (matched_behind unit)))

-- a unit of a definition's text: what stands in front of a line that may be the last one is no text yet
abbrev pub definition_line : Known → PageInput → Option ShortName → Bool → Option ShortName → Option ℕ → CopyUnit → Taking
definition_line k i name appends end matched unit =
    definition_unit k i name appends end (front_of (end_mark end) matched) unit (line_from (end_mark end) matched unit)

-- what was found of it
abbrev pub definition_found : Known → PageInput → Option ShortName → Bool → Option ShortName → Option ℕ → Found → Taking
definition_found k i name appends end matched found =
    unit_or (definition_line k i name appends end matched) (no_unit_found k i (Collecting (Defining name appends end matched)) found) (unit_in found)
