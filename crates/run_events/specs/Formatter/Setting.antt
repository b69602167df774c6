-- What is set of the pages, and given to a run.
use Rattle.std.specs.Prelude.{◌≡◌, ◌≤◌, ◌<◌, ◌+◌, Bool, true, false, not, length, Option, Some, None, IsSome, Result, Ok, Err}
use Rattle.roff_num.specs.declared.limit.Limit.{Limit}
use Rattle.roff_num.specs.declared.limit.Limit.TheVariants.{Traps, Diversions}
use Rattle.roff_num.specs.declared.short_name.ShortName.{ShortName}
use Rattle.page_model.specs.DueTexts.{text_due}
use Rattle.page_model.specs.Happenings.{Does, is_eject_event}
use Rattle.roff_pages.specs.Pages.Kept.{Kept}
use Rattle.page_model.specs.Layout.{Layout}
use Rattle.roff_pages.specs.Pages.Stands.{Happens, StandsAs}
use Rattle.page_model.specs.Springs.{springs_on_page}
use Rattle.page_model.specs.Turning.{with_trap}
use Rattle.page_model.specs.declared.layout_event.LayoutEvent.{LayoutEvent}
use Rattle.page_model.specs.declared.layout_event.LayoutEvent.TheVariants.{Begin, Close, Space, Need, Eject, EjectTo, EjectOn, EjectLast, Plant, Uproot, MoveTrap, RemoveTrap, DiversionTrap, NoDiversionTrap, Divert, EndDivert}
use Rattle.run_state.specs.Composer.Due.{text_told}
use Rattle.run_state.specs.declared.composer.Composer.{Composer as ComposerOf}
use Rattle.run_state.specs.declared.due_text.Due.{Due}
use Rattle.run_events.specs.Formatter.Paging.{PutsOnPage, blank_due, ejects_still}
use Rattle.run_events.specs.Formatter.Sprung.{diverting, left_going_on, sprung_behind, text_first}
use Rattle.run_events.specs.declared.sprung.Sprung.{Sprung}
use Rattle.run_model.specs.Registers.{AllRegisters}
use Rattle.page_bytes.specs.Sinks.{Sunk}
use Rattle.run_events.specs.declared.halt.Halt.{Halt}
use Rattle.run_events.specs.declared.halt.Halt.TheVariants.{Limit as Limited}

-- whether an event of the pages may put something
abbrev pub may_put : LayoutEvent → Bool
may_put (Space k) = true
may_put (Need k) = true
may_put (Eject asked) = true
may_put (EjectTo asked number) = true
may_put (EjectOn asked) = true
may_put EjectLast = true
may_put (_) = false

-- and whether it springs nothing: only a page's beginning does beside those
abbrev pub is_quiet : LayoutEvent → Bool
is_quiet Begin = false
is_quiet e = not (may_put e)

abbrev pub PutsNothing : LayoutEvent → Type 0
PutsNothing e = may_put e ≡ false

-- whether it is of traps or diversions
abbrev pub is_of_traps : LayoutEvent → Bool
is_of_traps (Plant trap) = true
is_of_traps (Uproot place) = true
is_of_traps (MoveTrap name place) = true
is_of_traps (RemoveTrap name) = true
is_of_traps (DiversionTrap trap) = true
is_of_traps NoDiversionTrap = true
is_of_traps (Divert name appends) = true
is_of_traps EndDivert = true
is_of_traps (_) = false

-- and whether the text of a diversion changes with it, if one is open
abbrev pub is_of_texts : LayoutEvent → Bool
is_of_texts Close = true
is_of_texts (Divert name appends) = true
is_of_texts EndDivert = true
is_of_texts (_) = false

abbrev pub IsOfTraps : LayoutEvent → Type 0
IsOfTraps e = is_of_traps e ≡ true

-- what halts where a limit refuses what is set
abbrev pub halted_within : Result (Unit {0}) Limit → Result (Option Sprung) Halt
halted_within (Ok done) = Ok None
halted_within (Err limit) = Err (Limited limit)

-- there is room for what is set
abbrev pub HasRoomFor : LayoutEvent → Kept → Type 0
HasRoomFor (Plant trap) k = length (with_trap trap k.traps) ≤ k.most_traps
HasRoomFor (Divert name appends) k = length k.diversions + 1 ≤ k.most_diversions
HasRoomFor (_) k = Unit {0}

-- why something isn't set: there would be more traps, or open diversions, than may be
abbrev pub IsPastItsLimit : LayoutEvent → Limit → Kept → Type 0
IsPastItsLimit (Plant trap) limit k = (limit ≡ Traps) × (k.most_traps < length (with_trap trap k.traps))
IsPastItsLimit (Divert name appends) limit k = (limit ≡ Diversions) × (k.most_diversions ≤ length k.diversions)
IsPastItsLimit (_) limit k = ⊥

-- behind it nothing follows
pub record SetsAlone (e : LayoutEvent) (old : Kept) : Type 0 where
  pub untold : (L : Layout) → StandsAs L old → text_due (Does e) L ≡ None
  pub springs : (L : Layout) → StandsAs L old → springs_on_page (Does e) L ≡ None

-- or it stopped so: a page that began with it sprang this, or the text of a diversion begins, ends, or is dropped
pub data SetsSo (e : LayoutEvent) (old : Kept) (due : Due) : Sprung → Type 0 where
  SetSpringing : (name : ShortName) → due.sprung ≡ Some name → SetsSo e old due sprung_behind
  SetText : ((L : Layout) → StandsAs L old → IsSome (text_due (Does e) L)) → SetsSo e old due diverting

-- and this follows it
pub record SetsMore (e : LayoutEvent) (old : Kept) (due : Due) (sprung : Sprung) : Type 0 where
  pub so : SetsSo e old due sprung
  pub text : (L : Layout) (es : ComposerOf) (rs : AllRegisters) → StandsAs L old → text_first sprung.why (text_told due.text es rs) ≡ text_due (Does e) L
  pub springs : (L : Layout) → StandsAs L old → due.sprung ≡ springs_on_page (Does e) L

abbrev pub SetsWith : LayoutEvent → Kept → Due → Option Sprung → Type 0
SetsWith e old due None = SetsAlone e old
SetsWith e old due (Some sprung) = SetsMore e old due sprung

-- something was set of the pages, or a limit refused it
abbrev pub SetsOnPage : LayoutEvent → Kept → Kept → Due → Result (Option Sprung) Halt → Type 0
SetsOnPage e old new due (Ok sprung) = Happens (Does e) old new × HasRoomFor e old × SetsWith e old due sprung
SetsOnPage e old new due (Err (Limited limit)) = IsPastItsLimit e limit old × (new ≡ old)
SetsOnPage e old new due (Err halt) = ⊥

-- what was put by an event, which goes on behind what it sprang if it is an eject whose page hasn't ended
pub record PutsByEvent (e : LayoutEvent) (old new : Kept) (due_old due_new : Due) (out_old out_new : Sunk) (result : Result (Option Sprung) Halt) : Type 0 where
  pub done : Result (Option Sprung) Halt
  pub puts : PutsOnPage (Does e) (blank_due e) old new due_old due_new out_old out_new done
  pub goes_on : Bool
  pub is : (L : Layout) → StandsAs L new → goes_on ≡ ejects_still e L
  pub only : is_eject_event e ≡ false → goes_on ≡ false
  pub left : result ≡ left_going_on goes_on done

-- an event was done to pages of which one was begun, where it needs one
abbrev pub DoesBy : Bool → LayoutEvent → Kept → Kept → Due → Due → Sunk → Sunk → Result (Option Sprung) Halt → Type 0
DoesBy true e old new due_old due_new out_old out_new result = PutsByEvent e old new due_old due_new out_old out_new result
DoesBy false e old new due_old due_new out_old out_new result = SetsOnPage e old new due_new result × (out_new ≡ out_old)

abbrev pub DoesOnPage : LayoutEvent → Kept → Kept → Due → Due → Sunk → Sunk → Result (Option Sprung) Halt → Type 0
DoesOnPage e old new due_old due_new out_old out_new result = DoesBy (may_put e) e old new due_old due_new out_old out_new result
