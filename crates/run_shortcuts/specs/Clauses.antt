-- The words of the clauses in `src/`, each with the file that it stands in.
pub use Rattle.run_items.specs.Outcome.{seen}
pub use Rattle.run_model.specs.Reading.Ends.{due}
pub use Rattle.run_model.specs.Reading.Waiting.{waiting_in}
pub use Rattle.run_model.specs.declared.line_state.LineState.TheVariants.{LineStart}
pub use Rattle.run_turns.specs.Running.Turning.{going_on}
pub use Rattle.page_bytes.specs.Sinks.{Sunk}
pub use Rattle.run_state.specs.Composer.Standing.{StandFor}
