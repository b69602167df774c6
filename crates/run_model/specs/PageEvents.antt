-- What happens to the page: events that are to be done, and events that happened.
--
-- They are the same but for titles: one that is to be placed is told by where its text is kept, and one that was placed by its
-- text.
use Rattle.std.specs.Prelude.{List}
use Rattle.run_model.specs.declared.event.PageEvent.{PageEvent as PageEventOf}
pub use Rattle.run_model.specs.declared.event.PageEvent.TheVariants.{Text, Interrupt, Environment, Back, InputTrap, Page, Title}
pub use Rattle.run_model.specs.declared.title.WhichTitle.{WhichTitle}
pub use Rattle.run_model.specs.declared.title.WhichTitle.TheVariants.{Read, Kept}
use Rattle.run_model.specs.TitleTexts.{TitleTold}

-- an event that is to be done
abbrev pub PageEvent : Type 0
PageEvent = PageEventOf WhichTitle

-- an event that happened
abbrev pub PastEvent : Type 0
PastEvent = PageEventOf TitleTold

-- all that happened to the page, the newest first
abbrev pub PageHistory : Type 0
PageHistory = List PastEvent
