-- The words of the clauses in `src/`, each with the file that it stands in.
pub use Rattle.run_items.specs.Outcome.{Outcome, seen, Runs}
pub use Rattle.run_model.specs.Starts.{pages_given}
pub use Rattle.run_turns.specs.Running.Turning.{IsFresh, falls_told, going_on}
pub use Rattle.page_bytes.specs.Sinks.{Sunk}
pub use Rattle.run_state.specs.Composer.Standing.{StandFor}
pub use Rattle.roff_num.specs.declared.limits.Limits.{Limits}
pub use Rattle.input_source.specs.Tape.{Tape}
pub use Rattle.run_model.specs.Reading.Ends.{due}
