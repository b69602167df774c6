-- The events of something of a text line, as the code tells them.
use Rattle.std.specs.Prelude.{ℕ, List, [], ◌∷◌, ◌++◌, map}
use Rattle.page_model.specs.declared.event.Event.TheVariants.{Break as PageBreak, Count, Gap as PageGap, LineEnd as PageLineEnd, Print as PagePrint, Tab as PageTab, WordEnd}
use Rattle.page_model.specs.declared.glyph.Glyph.TheVariants.{Blanks, Printed}
use Rattle.page_model.specs.declared.layout_event.LayoutEvent.TheVariants.{Close, EjectLast, Number}
use Rattle.run_model.specs.Reading.TextLines.{blank_line, leading_glyph}
use Rattle.run_model.specs.declared.event.LineEvents.{LineEvents}
use Rattle.run_model.specs.declared.event.LineEvents.TheVariants.{Nothing, LineEnd, Break, BlankLine, Closing, Number as GetsNumber, Gap, Interrupt, Tab, Leading, Printed as PrintedByte, Blanks as PrintedBlanks, Two, Three, Four}
use Rattle.run_model.specs.PageEvents.{PageEvent}
use Rattle.run_model.specs.declared.event.PageEvent.TheVariants.{Text, Interrupt as PageInterrupt, Page}

-- the event of a byte that is printed
abbrev pub print_event : ℕ → PageEvent
print_event b = Text (PagePrint (Printed b))

-- the events that close the run: open diversions are dropped, the pending line is placed, and the last page is ejected
abbrev pub closing_events : List PageEvent
closing_events = Page Close ∷ Text WordEnd ∷ Text PageBreak ∷ Page EjectLast ∷ []

-- the events, in order
abbrev pub line_events : LineEvents → List PageEvent
line_events Nothing = []
line_events LineEnd = Text WordEnd ∷ Text PageLineEnd ∷ Text Count ∷ []
line_events Break = Text WordEnd ∷ Text PageBreak ∷ []
line_events BlankLine = blank_line
line_events Closing = closing_events
line_events (GetsNumber n) = Page (Number n) ∷ []
line_events Gap = Text WordEnd ∷ Text (PageGap 1) ∷ []
line_events (Interrupt line) = PageInterrupt line ∷ []
line_events (Tab leading) = leading_glyph leading ++ Text PageTab ∷ []
line_events (Leading leading) = leading_glyph leading
line_events (PrintedByte leading b) = leading_glyph leading ++ print_event b ∷ []
line_events (PrintedBlanks leading columns) = leading_glyph leading ++ Text (PagePrint (Blanks columns)) ∷ []
line_events (Two leading bytes) = leading_glyph leading ++ map print_event bytes
line_events (Three leading bytes) = leading_glyph leading ++ map print_event bytes
line_events (Four leading bytes) = leading_glyph leading ++ map print_event bytes
