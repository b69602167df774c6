-- What happens to a layout: a line is placed, or a title, or something else.
pub use Rattle.page_model.specs.declared.layout_event.LayoutEvent.{LayoutEvent}
pub use Rattle.page_model.specs.declared.layout_event.LayoutEvent.TheVariants.{ListPages, Begin, Close, Space, Need, Eject, EjectTo, EjectOn, EjectLast, Length, Offset, Next, Number, NoSpace, Plant, Uproot, MoveTrap, RemoveTrap, DiversionTrap, NoDiversionTrap, Divert, EndDivert}
use Rattle.roff_num.specs.declared.num.Num.{Num}
use Rattle.page_model.specs.declared.trap.Trap.{Trap}
use Rattle.std.specs.Prelude.{ℕ, Bool, true, false, Option, Some, None}
use Rattle.page_model.specs.Lines.{Finished}
use Rattle.page_model.specs.Titles.{Title}

-- a finished line is placed, or a title, or something else happens
pub data Happening : Type 0 where
  Does : LayoutEvent → Happening
  Places : Finished → Happening
  Titles : Title → Happening

-- a page is ejected, and the next one gets a number, if one is given
abbrev pub ejecting : ℕ → Option Num → LayoutEvent
ejecting asked None = Eject asked
ejecting asked (Some number) = EjectTo asked number

-- the innermost open diversion has this trap from now on, or none
abbrev pub trapping : Option Trap → LayoutEvent
trapping None = NoDiversionTrap
trapping (Some trap) = DiversionTrap trap

-- whether a page is ejected
abbrev pub is_eject_event : LayoutEvent → Bool
is_eject_event (Eject asked) = true
is_eject_event (EjectTo asked number) = true
is_eject_event (EjectOn asked) = true
is_eject_event EjectLast = true
is_eject_event (_) = false

-- the same of a happening
abbrev pub is_eject : Happening → Bool
is_eject (Does e) = is_eject_event e
is_eject (Places line) = false
is_eject (Titles t) = false
