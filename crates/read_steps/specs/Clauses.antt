-- The words of the clauses in `src/`, each with the file that it stands in.
pub use Rattle.run_model.specs.Environments.{PageHistory}
pub use Rattle.run_state.specs.Composer.Standing.{StandFor}
pub use Rattle.run_state.specs.declared.composer.Composer.{Composer as ComposerOf}
pub use Rattle.read_lines.specs.Reader.Taken.{TakesAs}
pub use Rattle.run_model.specs.Reading.Items.{PageUnread}
pub use Rattle.run_model.specs.Reading.{escape_ended, undropped_taking, byte_taking}
pub use Rattle.run_model.specs.Reading.Arguments.{line_ended, unit_found, arguments_ended}
pub use Rattle.run_model.specs.Reading.Branches.{condition_found}
pub use Rattle.run_model.specs.Reading.ControlLines.{line_taking, name_ended_taking}
pub use Rattle.run_model.specs.Reading.DefinedLines.{behind_definition, definition_found, definition_line}
pub use Rattle.run_model.specs.Reading.Definitions.{definition_cut}
pub use Rattle.run_model.specs.Reading.Ends.{end_taking, interrupted_end}
pub use Rattle.run_model.specs.Reading.Items.{PageInput, meaning_events}
pub use Rattle.run_model.specs.Reading.Strings.{string_entered}
pub use Rattle.run_model.specs.Definitions.{ends_mark}
pub use Rattle.run_model.specs.Registers.{AllRegisters}
pub use Rattle.run_model.specs.Requests.{called_by, row_of}
pub use Rattle.run_model.specs.Run.{known_at}
pub use Rattle.run_model.specs.declared.line_state.LineState.TheVariants.{LineStart, Name as NameOf}
