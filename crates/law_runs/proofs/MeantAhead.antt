-- Events that an item may mean are so as a run closes, and where they are put back.
use Rattle.std.proofs.Common.{◌++◌, Bool, true, false, List, [], ◌∷◌, map, Option, Some, None}
use Rattle.input_model.specs.Input.{Ahead, ByteAhead, FreeAhead, EndAhead, ReturnAhead, DoAhead}
use Rattle.input_model.specs.Input.Calls.{called_text}
use Rattle.input_model.specs.Input.Names.{body_named}
use Rattle.roff_num.specs.ShortNames.{name_bytes}
use Rattle.roff_num.specs.declared.short_name.ShortName.{ShortName}
use Rattle.page_model.specs.declared.layout_event.LayoutEvent.{LayoutEvent}
use Rattle.page_model.specs.declared.layout_event.LayoutEvent.TheVariants.{ListPages, Begin, Close, Space, Need, Eject, EjectTo, EjectOn, EjectLast, Length, Offset, Next, Number, NoSpace, Plant, Uproot, MoveTrap, RemoveTrap, DiversionTrap, NoDiversionTrap, Divert, EndDivert}
use Rattle.run_model.specs.Reading.Calls.{called_last, last_called}
use Rattle.run_model.specs.Reading.Items.{PageInput}
use Rattle.run_model.specs.PageEvents.{PageEvent, PageHistory}
use Rattle.run_model.specs.Requests.{called_by}
use Rattle.run_model.specs.Titles.{put_back, told}
use Rattle.run_model.specs.declared.event.PageEvent.TheVariants.{Text, Page, Interrupt, Environment, Back, InputTrap as SetsTrap, Title}
use Rattle.run_model.specs.declared.request.Called.{Called}
use Rattle.run_model.specs.declared.request.Called.TheVariants.{Request as ARequest, Body as ABody, Nothing as Unknown}
use Rattle.run_model.proofs.GrowingAhead.{Grows, Stays, WithByte, WithEnd, WithFree, WithReturn, ahead-called}
use Rattle.run_model.proofs.MeantEvents.{AllMeant, AreMeant, IsMeant, MayBe}
use Rattle.run_model.specs.Springs.{left_if, left_of}
use Rattle.page_model.specs.Springs.{goes_on}
use Rattle.page_model.specs.Happenings.{Does}
use Rattle.run_model.specs.Layouts.{layout_of}
use Rattle.run_model.specs.Registers.{AllRegisters}

-- what is meant at any time is so as a run closes
meant-closing : (closing : Bool) (e : LayoutEvent) → IsMeant false e → IsMeant closing e
meant-closing closing (Space k) meant = meant
meant-closing closing (Need k) meant = meant
meant-closing closing (Eject asked) meant = meant
meant-closing closing (EjectTo asked number) meant = meant
meant-closing closing (EjectOn asked) meant = meant
meant-closing closing EjectLast meant = absurd (cc)
meant-closing closing (Length k) meant = meant
meant-closing closing (Offset k) meant = meant
meant-closing closing (Next n) meant = meant
meant-closing closing (Number n) meant = meant
meant-closing closing (NoSpace on) meant = meant
meant-closing closing (Plant trap) meant = meant
meant-closing closing (Uproot place) meant = meant
meant-closing closing (MoveTrap name place) meant = meant
meant-closing closing (RemoveTrap name) meant = meant
meant-closing closing (ListPages first last) meant = absurd meant
meant-closing closing Begin meant = absurd meant
meant-closing closing Close meant = absurd meant
meant-closing closing (DiversionTrap trap) meant = meant
meant-closing closing NoDiversionTrap meant = meant
meant-closing closing (Divert name appends) meant = meant
meant-closing closing EndDivert meant = meant

may-closing : (closing : Bool) (e : PageEvent) → MayBe false e → MayBe closing e
may-closing closing (Page e) may = meant-closing closing e may
may-closing closing (Text e) may = tt
may-closing closing (Interrupt untold) may = tt
may-closing closing (Environment number) may = tt
may-closing closing Back may = tt
may-closing closing (SetsTrap trap) may = tt
may-closing closing (Title which) may = tt

pub all-meant : (closing : Bool) (events : List PageEvent) → AreMeant events → AllMeant closing events
all-meant closing [] meant = tt
all-meant closing (e ∷ events) meant = (may-closing closing e meant.0, all-meant closing events meant.1)

-- and so are those that were put back
abbrev pub AllMeantAhead : Bool → List (Ahead PageEvent) → Type 0
AllMeantAhead closing [] = Unit {0}
AllMeantAhead closing (ByteAhead b ∷ items) = AllMeantAhead closing items
AllMeantAhead closing (FreeAhead b ∷ items) = AllMeantAhead closing items
AllMeantAhead closing (EndAhead ∷ items) = AllMeantAhead closing items
AllMeantAhead closing (ReturnAhead back ∷ items) = AllMeantAhead closing items
AllMeantAhead closing (DoAhead e ∷ items) = MayBe closing e × AllMeantAhead closing items

pub meant-grown : (closing : Bool) (items more : List (Ahead PageEvent)) → Grows items more → AllMeantAhead closing items
    → AllMeantAhead closing more
meant-grown closing items _ Stays meant = meant
meant-grown closing items _ (WithByte b more grows) meant = meant-grown closing items more grows meant
meant-grown closing items _ (WithFree b more grows) meant = meant-grown closing items more grows meant
meant-grown closing items _ (WithEnd more grows) meant = meant-grown closing items more grows meant
meant-grown closing items _ (WithReturn back more grows) meant = meant-grown closing items more grows meant

-- events are put back
may-back : (closing : Bool) (e : PageEvent) → MayBe closing e → MayBe closing (put_back e)
may-back closing (Page e) may = may
may-back closing (Text e) may = tt
may-back closing (Interrupt untold) may = tt
may-back closing (Environment number) may = tt
may-back closing Back may = tt
may-back closing (SetsTrap trap) may = tt
may-back closing (Title which) may = tt

pub meant-back : (closing : Bool) (events : List PageEvent) → AllMeant closing events → AllMeant closing (map put_back events)
meant-back closing [] meant = tt
meant-back closing (e ∷ events) meant = (may-back closing e meant.0, meant-back closing events meant.1)

pub ahead-back : (closing : Bool) (events : List PageEvent) (items : List (Ahead PageEvent)) → AllMeant closing events → AllMeantAhead closing items
    → AllMeantAhead closing (map DoAhead events ++ items)
ahead-back closing [] items meant behind = behind
ahead-back closing (e ∷ events) items meant behind = (meant.0, ahead-back closing events items meant.1 behind)

-- the body of the last macro
ahead-called_last : (called : Called) (i : PageInput) → Grows i.ahead (called_last called i).ahead
ahead-called_last (ABody name) i = ahead-called (called_text (body_named (name_bytes name) i)) 0 i.ahead
ahead-called_last (ARequest request) i = Stays
ahead-called_last Unknown i = Stays

pub ahead-last_called : (name : Option ShortName) (i : PageInput) → Grows i.ahead (last_called name i).ahead
ahead-last_called None i = Stays
ahead-last_called (Some name) i = ahead-called_last (called_by name i.names) i

-- what goes on of an eject is meant where that was
meant-left_if : (closing goes : Bool) (e : LayoutEvent) → AllMeant closing (Page e ∷ []) → AllMeant closing (left_if goes e)
meant-left_if closing false e meant = tt
meant-left_if closing true (Eject asked) meant = meant
meant-left_if closing true (EjectTo asked number) meant = meant
meant-left_if closing true (EjectOn asked) meant = meant
meant-left_if closing true EjectLast meant = meant
meant-left_if closing true (Space k) meant = meant
meant-left_if closing true (Need k) meant = meant
meant-left_if closing true (Length k) meant = meant
meant-left_if closing true (Offset k) meant = meant
meant-left_if closing true (Next n) meant = meant
meant-left_if closing true (Number n) meant = meant
meant-left_if closing true (NoSpace on) meant = meant
meant-left_if closing true (Plant trap) meant = meant
meant-left_if closing true (Uproot place) meant = meant
meant-left_if closing true (MoveTrap name place) meant = meant
meant-left_if closing true (RemoveTrap name) meant = meant
meant-left_if closing true (ListPages first last) meant = meant
meant-left_if closing true Begin meant = meant
meant-left_if closing true Close meant = meant
meant-left_if closing true (DiversionTrap trap) meant = meant
meant-left_if closing true NoDiversionTrap meant = meant
meant-left_if closing true (Divert name appends) meant = meant
meant-left_if closing true EndDivert meant = meant

pub meant-left_of : (closing : Bool) (rs : AllRegisters) (h : PageHistory) (e : PageEvent) → AllMeant closing (e ∷ [])
    → AllMeant closing (left_of h (told rs e))
meant-left_of closing rs h (Page e) meant = meant-left_if closing (goes_on (Does e) (layout_of h)) e meant
meant-left_of closing rs h (Text e) meant = tt
meant-left_of closing rs h (Interrupt untold) meant = tt
meant-left_of closing rs h (Environment number) meant = tt
meant-left_of closing rs h Back meant = tt
meant-left_of closing rs h (SetsTrap trap) meant = tt
meant-left_of closing rs h (Title which) meant = tt
