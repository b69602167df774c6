-- The words of the clauses in `src/`, each with the file that it stands in.
pub use Rattle.run_state.specs.declared.composer.Composer.{Composer as ComposerOf}
pub use Rattle.read_lines.specs.Reader.State.{fresh_reader}
pub use Rattle.read_lines.specs.Reader.Taken.{TakesAs}
pub use Rattle.read_lines.specs.Reader.Stepping.{StepsReader}
pub use Rattle.run_model.specs.Reading.Items.{PageUnread}
pub use Rattle.run_model.specs.Reading.{escape_ended}
pub use Rattle.run_model.specs.Reading.Beginnings.{beginning_found, first_escape, first_taking, going_on_told, line_begun, first_name}
pub use Rattle.run_model.specs.Reading.Branches.{condition_found, decided, is_so, condition_begun}
pub use Rattle.run_model.specs.Reading.Calls.{call_unit, called_last, last_called}
pub use Rattle.run_model.specs.Reading.Returns.{behind_return}
pub use Rattle.run_model.specs.Reading.Definitions.{lines_begun, definition_begun}
pub use Rattle.run_model.specs.Reading.Ends.{due, is_left, is_unfinished}
pub use Rattle.run_model.specs.Reading.Escapes.{asking, interpolating, measuring, putting_nothing, putting_string, putting_argument}
pub use Rattle.run_model.specs.Reading.Items.{PageInput, going_on, telling}
pub use Rattle.run_model.specs.Reading.Messages.{message_unit}
pub use Rattle.run_model.specs.Reading.Strings.{name_read, string_line_ended, string_name_behind, string_name_or_text, string_name_unit, string_unit}
pub use Rattle.run_model.specs.Reading.TextLines.{name_taking, text_found}
pub use Rattle.run_model.specs.Reading.Units.{holding, interrupted, no_unit_found}
pub use Rattle.run_model.specs.Reading.Waiting.{waiting_in}
pub use Rattle.roff_num.specs.ShortNames.{name_at}
pub use Rattle.input_model.specs.Input.{holding_plain, holding_text}
pub use Rattle.input_model.specs.Input.Calls.{arguments_given}
pub use Rattle.run_model.specs.Registers.{Known}
pub use Rattle.run_model.specs.Requests.{called_by}
pub use Rattle.run_model.specs.declared.line_state.LineState.TheVariants.{LineStart, Collecting}
pub use Rattle.run_model.specs.declared.purpose.Purpose.TheVariants.{Telling}
