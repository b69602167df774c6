-- The lines by which macros are defined, or that are ignored, and where their text begins (manual, section 7.1).
use Rattle.std.specs.Prelude.{ℕ, Bool, false, List, [], ◌∷◌, Some, None, Option}
use Rattle.input_model.specs.Arguments.{no_arguments}
use Rattle.input_model.specs.Input.Names.{adding, dropping}
use Rattle.run_model.specs.Reading.Items.{PageInput, Taking, going_on}
use Rattle.run_model.specs.Reading.Strings.{string_begun}
use Rattle.roff_num.specs.ShortNames.{name_at, name_or_none}
use Rattle.run_model.specs.declared.message.Message.TheVariants.{DefinitionNotEnded}
use Rattle.run_model.specs.declared.line_state.LineState.TheVariants.{LineStart, Collecting}
use Rattle.run_model.specs.declared.purpose.Purpose.TheVariants.{Defining}
use Rattle.roff_num.specs.declared.short_name.ShortName.{ShortName}
use Rattle.run_model.specs.declared.request.LinesFor.{LinesFor}
use Rattle.run_model.specs.declared.request.LinesFor.TheVariants.{Macro, Nobody}
use Rattle.run_model.specs.Requests.{saying}

-- the text of a definition is begun, if a name gets it, and lines are read up to the one that ends it
abbrev pub definition_begun : PageInput → Option ShortName → Bool → Option ShortName → Taking
definition_begun i name appends end = going_on (string_begun name i) (Collecting (Defining name appends end (Some 0)))

-- a definition's line has ended: without the name of a macro it is ignored
abbrev pub definition_named : PageInput → Bool → Option (Option ShortName) → Option ShortName → Taking
definition_named i appends None end = going_on (record i { arguments = no_arguments }) LineStart
definition_named i appends (Some None) end = going_on (record i { arguments = no_arguments }) LineStart
definition_named i appends (Some (Some name)) end = definition_begun i (Some name) appends end

-- the end of the line of a request by which lines are defined, or ignored
abbrev pub lines_begun : PageInput → LinesFor → List (List ℕ) → Taking
lines_begun i (Macro appends) as_given = definition_named i appends (name_at 0 as_given) (name_or_none (name_at 1 as_given))
lines_begun i Nobody as_given = definition_begun i None false (name_or_none (name_at 0 as_given))

-- the text of a definition grows by bytes, if a name gets it
abbrev pub definition_grown : Option ShortName → List ℕ → PageInput → PageInput
definition_grown None bytes i = i
definition_grown (Some name) bytes i = adding bytes i

-- a definition that ends with the input is dropped
abbrev pub definition_dropped : Option ShortName → PageInput → PageInput
definition_dropped None i = i
definition_dropped (Some name) i = dropping i

-- what is said of that
abbrev pub definition_cut : PageInput → Option ShortName → Taking
definition_cut i name = record {
  input = definition_dropped name i;
  reading = LineStart;
  effect = saying (DefinitionNotEnded ∷ []) [];
}
