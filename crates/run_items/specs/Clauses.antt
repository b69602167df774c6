-- The words of the clauses in `src/`, each with the file that it stands in.
pub use Rattle.run_items.specs.Outcome.{Beginning, OutcomeOf, Seen, seen}
pub use Rattle.run_items.specs.Performing.{DoesMeaning, DoesTaking, PerformsAll, PerformsLeft, DoesEvent, sinks}
pub use Rattle.run_items.specs.Giving.{Gives}
pub use Rattle.run_items.specs.Reporting.{Tells}
pub use Rattle.run_model.specs.Starts.{pages_given}
pub use Rattle.run_model.specs.Messages.{message_line, message_lines, text_told, told_line}
pub use Rattle.run_model.specs.Events.Lines.{closing_events}
pub use Rattle.read_lines.specs.Reader.State.{fresh_reader}
pub use Rattle.run_model.specs.Reading.{escape_ended, byte_taking}
pub use Rattle.run_model.specs.Reading.Ends.{end_taking}
pub use Rattle.run_model.specs.declared.line_state.LineState.TheVariants.{LineStart}
pub use Rattle.run_items.specs.Halting.{Halts}
pub use Rattle.page_bytes.specs.Sinks.{Puts, Sunk}
pub use Rattle.run_state.specs.Composer.Standing.{StandFor}
pub use Rattle.input_source.specs.Tape.{Tape}
pub use Rattle.std.specs.Option.{option_to_list}
