-- The words of the clauses in `src/`, each with the file that it stands in.
pub use Rattle.run_items.specs.Outcome.{Beginning, OutcomeOf, Seen, seen}
pub use Rattle.run_model.specs.Messages.{message_line}
pub use Rattle.run_model.specs.Reading.Ends.{due}
pub use Rattle.run_model.specs.declared.line_state.Due.TheVariants.{Leaves, Tells}
pub use Rattle.run_model.specs.declared.line_state.LineState.TheVariants.{LineStart}
pub use Rattle.page_bytes.specs.Sinks.{Puts, Sunk}
pub use Rattle.run_model.specs.declared.message.Message.TheVariants.{ReadFailed}
pub use Rattle.run_model.specs.declared.status.Status.TheVariants.{Device}
pub use Rattle.run_state.specs.Composer.Standing.{StandFor}
pub use Rattle.input_source.specs.Tape.{Tape}
