-- The words of the clauses in `src/`, each with the file that it stands in.
pub use Rattle.run_events.specs.Formatter.Performing.{EndsOpenWord, EndsWordFirst, PerformsEvents, PerformsOne, PerformsStanding, PerformsTitle, PerformsUnfielded, PlacesTitle}
pub use Rattle.run_events.specs.Formatter.Paging.{BeginsFor, BeginsPage, ReadyFor, halted_by, PutsBy, PutsFinished, PutsIn, PutsOnPage, blank_due, line_due, noted_by}
pub use Rattle.run_events.specs.Formatter.Setting.{DoesOnPage, IsOfTraps, PutsByEvent, PutsNothing, SetsOnPage}
pub use Rattle.run_events.specs.Formatter.Sprung.{StopsSprung, sprung_before, with_sprung}
pub use Rattle.run_model.specs.Starts.{pages_given}
pub use Rattle.run_model.specs.declared.event.PageEvent.TheVariants.{Back, Text, Environment, InputTrap as SetsTrap, Interrupt, Page}
pub use Rattle.page_bytes.specs.Sinks.{Sunk}
pub use Rattle.page_model.specs.Columns.{finished_of}
pub use Rattle.run_state.specs.Composer.Standing.{StandFor}
pub use Rattle.page_model.specs.declared.event.Event.TheVariants.{Tab, Gap, Print, WordEnd, LineEnd, Break}
