-- What a step means: its messages and its events.
use Rattle.std.specs.Prelude.{List, [], ◌∷◌, ◌++◌, Option}
use Rattle.std.specs.Option.{option_to_list}
use Rattle.page_model.specs.declared.event.Event.TheVariants.{Break as PageBreak, Count, Gap as PageGap, LineEnd as PageLineEnd, Tab as PageTab, WordEnd}
use Rattle.run_model.specs.Events.Lines.{print_event}
use Rattle.run_model.specs.Reading.TextLines.{blank_line, leading_glyph}
use Rattle.run_model.specs.PageEvents.{PageEvent}
use Rattle.run_model.specs.declared.event.PageEvent.TheVariants.{Text}
use Rattle.run_model.specs.declared.message.Message.{Message}
use Rattle.run_model.specs.declared.step.Step.{Step}
use Rattle.run_model.specs.declared.step.Step.TheVariants.{Nothing, Glyph, Tab, Gap, Break, LineEnd, BlankLine, Meaning}

-- the events, in order, where these are kept
abbrev pub events_of : List PageEvent → Step → List PageEvent
events_of kept Nothing = []
events_of kept (Glyph b leading) = leading_glyph leading ++ print_event b ∷ []
events_of kept (Tab leading) = leading_glyph leading ++ Text PageTab ∷ []
events_of kept Gap = Text WordEnd ∷ Text (PageGap 1) ∷ []
events_of kept Break = Text WordEnd ∷ Text PageBreak ∷ []
events_of kept LineEnd = Text WordEnd ∷ Text PageLineEnd ∷ Text Count ∷ []
events_of kept BlankLine = blank_line
events_of kept Meaning = kept

-- the messages, where this one is kept, if any
abbrev pub messages_of : Option Message → Step → List Message
messages_of kept Meaning = option_to_list kept
messages_of kept (_) = []
