-- Events behind which nothing follows.
use Rattle.std.proofs.Common.{◌≡◌, Bool, true, false, not, ◌||◌, List, [], Option, Some, None, refl, ap, ◌∙◌, option_map, if◌then◌else◌}
use Rattle.page_model.specs.Behind.{finished}
use Rattle.page_model.specs.DivertedText.{diverted_lines, diverted_text}
use Rattle.page_model.specs.DueTexts.{bytes_due, drop_due, due_by, end_due}
use Rattle.page_model.specs.Happenings.{Happening, Does, Places, Titles, is_eject}
use Rattle.page_model.specs.declared.layout_event.LayoutEvent.{LayoutEvent}
use Rattle.page_model.specs.declared.layout_event.LayoutEvent.TheVariants.{ListPages, Begin, Close, Space, Need, Eject, EjectTo, EjectOn, EjectLast, Length, Offset, Next, Number, NoSpace, Plant, Uproot, MoveTrap, RemoveTrap, DiversionTrap, NoDiversionTrap, Divert, EndDivert}
use Rattle.page_model.specs.Layout.{Diversion, Layout}
use Rattle.page_model.specs.Lines.{Finished}
use Rattle.page_model.specs.Puts.{appended}
use Rattle.page_model.specs.Words.{is_empty}
use Rattle.run_model.specs.Environments.{PageHistory, text_of}
use Rattle.run_model.specs.Following.{following, text_behind}
use Rattle.run_model.specs.Layouts.{layout_of, placed}
use Rattle.run_model.specs.PageEvents.{PastEvent}
use Rattle.run_model.specs.declared.event.PageEvent.TheVariants.{Text, Page, Interrupt, Environment, Back, InputTrap as SetsTrap, Title}
use Rattle.law_runs.proofs.TextsChanged.{follows-nothing}
use Rattle.law_reading.specs.TextLaws.{EventsAreQuietOnThePage, EventsThatPutNothingAreQuiet, begins_diversion}

-- with no diversion open nothing is put behind a text
bytes-none : (x : Happening) (L : Layout) → L.diversions ≡ [] → bytes_due L.diversions (diverted_text x L) ≡ None
bytes-none x L none =
    ap (λ (ds : List Diversion). bytes_due L.diversions (if not (is_eject x || is_empty ds) then diverted_lines (appended x L) else []))
    none
    ∙ by_eject (is_eject x)
  where
    by_eject : (ejects : Bool) → bytes_due L.diversions (if not (ejects || true) then diverted_lines (appended x L) else []) ≡ None
    by_eject true = refl
    by_eject false = refl

placed-none : (line : Option Finished) (L : Layout) → L.diversions ≡ [] → text_behind (option_map Places line) L ≡ None
placed-none None L none = refl
placed-none (Some line) L none = bytes-none (Places line) L none

event-none : (e : LayoutEvent) (L : Layout) → begins_diversion (Page e) ≡ false → L.diversions ≡ [] → due_by e L ≡ None
event-none (Divert name appends) L begins none = absurd (cc)
event-none EndDivert L begins none = ap end_due none
event-none Close L begins none = ap drop_due none
event-none (Space k) L begins none = bytes-none (Does (Space k)) L none
event-none (Need k) L begins none = bytes-none (Does (Need k)) L none
event-none (ListPages first last) L begins none = refl
event-none Begin L begins none = refl
event-none (Eject asked) L begins none = refl
event-none (EjectTo asked number) L begins none = refl
event-none (EjectOn asked) L begins none = refl
event-none EjectLast L begins none = refl
event-none (Length k) L begins none = refl
event-none (Offset k) L begins none = refl
event-none (Next n) L begins none = refl
event-none (Number n) L begins none = refl
event-none (NoSpace on) L begins none = refl
event-none (Plant trap) L begins none = refl
event-none (Uproot place) L begins none = refl
event-none (MoveTrap name place) L begins none = refl
event-none (RemoveTrap name) L begins none = refl
event-none (DiversionTrap trap) L begins none = refl
event-none NoDiversionTrap L begins none = refl

-- so no text changes there, but where a diversion begins
text-none : (h : PageHistory) (e : PastEvent) → begins_diversion e ≡ false → (layout_of h).diversions ≡ [] → (following h e).text ≡ None
text-none h (Text e) begins none = placed-none (finished (text_of h) e) (layout_of h) none
text-none h (Page e) begins none = event-none e (layout_of h) begins none
text-none h (Title t) begins none = bytes-none (Titles (placed t (text_of h) (layout_of h))) (layout_of h) none
text-none h (Interrupt untold) begins none = refl
text-none h (Environment number) begins none = refl
text-none h Back begins none = refl
text-none h (SetsTrap trap) begins none = refl

pub events_are_quiet_on_the_page : EventsAreQuietOnThePage
events_are_quiet_on_the_page l h e none begins allowed goes_on none_sprung = record {
  allowed = allowed;
  goes_on = goes_on;
  unfollowed = follows-nothing (following h e) (text-none h e begins none) none_sprung;
}

pub events_that_put_nothing_are_quiet : EventsThatPutNothingAreQuiet
events_that_put_nothing_are_quiet l h e nothing allowed goes_on none_sprung = record {
  allowed = allowed;
  goes_on = goes_on;
  unfollowed = follows-nothing (following h e) (ap (λ (x : Option Happening). text_behind x (layout_of h)) nothing) none_sprung;
}
