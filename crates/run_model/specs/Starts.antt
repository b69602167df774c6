-- What is given to a run at its start, and set before anything is read: the pages that are written, the number of the first one,
-- and registers.
use Rattle.std.specs.Prelude.{ℕ, List, [], ◌∷◌, ◌++◌, Option, Some, None, pos}
use Rattle.roff_num.specs.declared.num.Num.{Num}
use Rattle.page_model.specs.declared.layout_event.LayoutEvent.TheVariants.{ListPages, Next}
use Rattle.run_model.specs.Registers.{AllRegisters, Change, SetTo, changed_by}
use Rattle.run_model.specs.PageEvents.{PageHistory}
use Rattle.run_model.specs.Requests.Effects.{page_numbered}
use Rattle.run_model.specs.Requests.Numbering.{number_of_page}
use Rattle.run_model.specs.declared.event.PageEvent.TheVariants.{Page}
use Rattle.run_model.specs.declared.start.Start.{Start}

-- nothing is given
abbrev pub nothing_given : Start
nothing_given = record { first_page = None; pages = record { items = [] }; registers = record { items = [] } }

-- the history behind ranges of pages that are listed, one after another
abbrev pub pages_listed : List (Num × Num) → PageHistory → PageHistory
pages_listed [] h = h
pages_listed (range ∷ others) h = pages_listed others (Page (ListPages range.0 range.1) ∷ h)

-- the history behind the number that the first page gets, if one is given
abbrev pub first_page_numbered : Option Num → PageHistory → PageHistory
first_page_numbered None h = h
first_page_numbered (Some n) h = Page (Next n) ∷ h

-- what is given of the pages comes before all else
abbrev pub pages_given : Start → PageHistory
pages_given start = first_page_numbered start.first_page (pages_listed start.pages.items [])

-- the change that sets a register of the start: its name is one byte, and it has no increment
abbrev pub given_change : ℕ → Num → Change
given_change name value = SetTo (name ∷ []) value (record { 0 = pos 0 })

-- the registers behind it
abbrev pub with_given : ℕ × Num → AllRegisters → AllRegisters
with_given given rs = changed_by (given_change given.0 given.1) rs

-- the history behind it: the page number's value is the layout's
abbrev pub history_given : ℕ × Num → PageHistory → PageHistory
history_given given h = page_numbered (number_of_page (given.0 ∷ []) given.1) ++ h
