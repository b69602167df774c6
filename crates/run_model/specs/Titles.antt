-- Titles that wait to be placed (manual, sections 7.5 and 14).
--
-- A title that was read waits where it begins the first page, and a macro springs there: its text is kept beside that of the
-- titles that the macro reads.
use Rattle.std.specs.Prelude.{List, [], ◌∷◌}
use Rattle.run_model.specs.PageEvents.{PageEvent, PastEvent, Text, Interrupt, Environment, Back, InputTrap, Page, Title, WhichTitle, Read, Kept}
use Rattle.run_model.specs.Registers.{AllRegisters}
use Rattle.run_model.specs.TitleTexts.{TitleText, TitleTold, title_begun}

-- the text of a title
abbrev pub title_of : AllRegisters → WhichTitle → TitleText
title_of rs Read = rs.title
title_of rs Kept = rs.kept_title

-- a title as it happens: the page number is written in the format of then
abbrev pub title_told : AllRegisters → WhichTitle → TitleTold
title_told rs which = record { text = title_of rs which; format = rs.page_format }

-- an event as it happens
abbrev pub told : AllRegisters → PageEvent → PastEvent
told rs (Text e) = Text e
told rs (Interrupt line) = Interrupt line
told rs (Environment number) = Environment number
told rs Back = Back
told rs (InputTrap trap) = InputTrap trap
told rs (Page e) = Page e
told rs (Title which) = Title (title_told rs which)

-- an event as it is put back: a title is one that is kept
abbrev pub put_back : PageEvent → PageEvent
put_back (Text e) = Text e
put_back (Interrupt line) = Interrupt line
put_back (Environment number) = Environment number
put_back Back = Back
put_back (InputTrap trap) = InputTrap trap
put_back (Page e) = Page e
put_back (Title which) = Title Kept

-- the title that was read last is kept, and nothing is read of another yet
abbrev pub with_title_kept : AllRegisters → AllRegisters
with_title_kept rs = record rs { title = title_begun []; kept_title = rs.title }

-- the registers where these events are put back
abbrev pub keeping : List PageEvent → AllRegisters → AllRegisters
keeping [] rs = rs
keeping (Title Read ∷ events) rs = keeping events (with_title_kept rs)
keeping (e ∷ events) rs = keeping events rs
