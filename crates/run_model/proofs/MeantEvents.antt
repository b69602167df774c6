-- Which events an item of the input may mean: none begins the first page or closes the run; few wait behind one that springs
-- a macro; and where a condition is read behind the item they set the page's number at the most.
use Rattle.std.proofs.Common.{◌≡◌, ◌⊎◌, inl, inr, ◌<◌, Bool, true, false, List, [], ◌∷◌, ◌++◌, Option, Some, None, refl, sym, subst}
use Rattle.roff_num.specs.declared.num.Num.{Num}
use Rattle.page_model.specs.declared.layout_event.LayoutEvent.{LayoutEvent}
use Rattle.page_model.specs.declared.layout_event.LayoutEvent.TheVariants.{Space, Need, Eject, EjectTo, EjectOn, EjectLast, Length, Offset, Next, Number, NoSpace, Plant, Uproot, MoveTrap, RemoveTrap, Divert, EndDivert, DiversionTrap, NoDiversionTrap}
use Rattle.run_model.specs.PageEvents.{PageEvent}
use Rattle.run_model.specs.Requests.Effects.{page_numbered}
use Rattle.run_model.specs.declared.event.PageEvent.TheVariants.{Page}
use Rattle.run_model.specs.declared.line_state.LineState.{LineState}
use Rattle.run_model.specs.declared.line_state.LineState.TheVariants.{Deciding}
use Rattle.run_model.proofs.WaitingFew.{FewWait}

-- Of the events of pages those that requests mean: one that ejects is for a page that was begun, or the first one, and no page length
-- is 0. As a run closes the last page's eject is among them.
abbrev pub IsMeant : Bool → LayoutEvent → Type 0
IsMeant closing (Space k) = Unit {0}
IsMeant closing (Need k) = Unit {0}
IsMeant closing (Eject asked) = 0 < asked
IsMeant closing (EjectTo asked number) = 0 < asked
IsMeant closing (EjectOn asked) = 0 < asked
IsMeant closing EjectLast = closing ≡ true
IsMeant closing (Length k) = 0 < k
IsMeant closing (Offset k) = Unit {0}
IsMeant closing (Next n) = Unit {0}
IsMeant closing (Number n) = Unit {0}
IsMeant closing (NoSpace on) = Unit {0}
IsMeant closing (Plant trap) = Unit {0}
IsMeant closing (Uproot place) = Unit {0}
IsMeant closing (MoveTrap name place) = Unit {0}
IsMeant closing (RemoveTrap name) = Unit {0}
IsMeant closing (Divert name appends) = Unit {0}
IsMeant closing EndDivert = Unit {0}
IsMeant closing (DiversionTrap trap) = Unit {0}
IsMeant closing NoDiversionTrap = Unit {0}
IsMeant closing (_) = ⊥

-- an event is such, or none of pages
abbrev pub MayBe : Bool → PageEvent → Type 0
MayBe closing (Page e) = IsMeant closing e
MayBe closing (_) = Unit {0}

-- all of these are
abbrev pub AllMeant : Bool → List PageEvent → Type 0
AllMeant closing [] = Unit {0}
AllMeant closing (e ∷ events) = MayBe closing e × AllMeant closing events

-- and none ejects the last page
abbrev pub AreMeant : List PageEvent → Type 0
AreMeant events = AllMeant false events

-- and so are others behind them
pub meant-append : (closing : Bool) (first others : List PageEvent) → AllMeant closing first → AllMeant closing others
    → AllMeant closing (first ++ others)
meant-append closing [] others meant behind = behind
meant-append closing (e ∷ first) others meant behind = (meant.0, meant-append closing first others meant.1 behind)

-- these set the page's number at the most
abbrev pub SetsNumber : List PageEvent → Type 0
SetsNumber events = (n : Option Num) × (events ≡ page_numbered n)

-- as none does
pub none : SetsNumber []
none = (None, refl)

-- no condition is read
abbrev pub NoCondition : LineState → Type 0
NoCondition (Deciding keeps) = ⊥
NoCondition (_) = Unit {0}

-- no condition is read behind these, they are meant, and few of them wait
abbrev pub Tellable : LineState → List PageEvent → Type 0
Tellable reading events = NoCondition reading × AreMeant events × FewWait events

-- an item may mean these, and this be read behind it
abbrev pub MayMean : LineState → List PageEvent → Type 0
MayMean reading events = SetsNumber events ⊎ Tellable reading events

-- the same of an item that leaves this to be read, or leads to what is no condition
abbrev pub MayTell : LineState → LineState → List PageEvent → Type 0
MayTell old reading events = ((reading ≡ old) × SetsNumber events) ⊎ Tellable reading events

meant-numbered : (n : Option Num) → AreMeant (page_numbered n)
meant-numbered None = tt
meant-numbered (Some n) = (tt, tt)

waits-numbered : (n : Option Num) → FewWait (page_numbered n)
waits-numbered None = tt
waits-numbered (Some n) = tt

-- so these are meant, and few of them wait
pub meant-events : (reading : LineState) (events : List PageEvent) → MayMean reading events → AreMeant events
meant-events reading events (inl sets) = subst AreMeant (sym sets.1) (meant-numbered sets.0)
meant-events reading events (inr told) = told.1

pub few-wait : (reading : LineState) (events : List PageEvent) → MayMean reading events → FewWait events
few-wait reading events (inl sets) = subst FewWait (sym sets.1) (waits-numbered sets.0)
few-wait reading events (inr told) = told.2

-- what may be told may be meant, and leads to no condition from where none is read
pub told-meant : (old reading : LineState) (events : List PageEvent) → MayTell old reading events → MayMean reading events
told-meant old reading events (inl same) = inl same.1
told-meant old reading events (inr told) = inr told

pub told-over : (old reading : LineState) (events : List PageEvent) → MayTell old reading events → NoCondition old → NoCondition reading
told-over old reading events (inl same) over = subst NoCondition (sym same.0) over
told-over old reading events (inr told) over = told.0
