-- What stopped a list of events, and what is left of it: an event sprang a macro, or is done but for the text of a diversion.
use Rattle.std.specs.Prelude.{◌≡◌, ◌≤◌, ℕ, ◌+◌, ◌*◌, Bool, true, false, ◌||◌, List, [], ◌∷◌, ◌++◌, drop, length, Option, Some, None, is_some, Result, Ok, Err, if◌then◌else◌}
use Rattle.roff_num.specs.declared.short_name.ShortName.{ShortName}
use Rattle.page_model.specs.DueTexts.{TextDue}
use Rattle.page_model.specs.declared.layout_event.LayoutEvent.TheVariants.{Number}
use Rattle.run_state.specs.Composer.Due.{due_told}
use Rattle.run_state.specs.declared.composer.Composer.{Composer as ComposerOf}
use Rattle.run_state.specs.declared.due_text.Due.{Due}
use Rattle.run_model.specs.Registers.{AllRegisters}
use Rattle.run_model.specs.Run.{State, Following, followed_by}
use Rattle.run_model.specs.PageEvents.{PageEvent}
use Rattle.run_model.specs.declared.event.PageEvent.TheVariants.{Page}
use Rattle.run_model.specs.Springs.{eject_going_on, may_spring}
use Rattle.run_events.specs.declared.formatter.Formatter.{Formatter}
use Rattle.run_events.specs.declared.halt.Halt.{Halt}
use Rattle.run_events.specs.declared.sprung.Left.{Left}
use Rattle.run_events.specs.declared.sprung.Left.TheVariants.{Springs, GoesOn, Diverts}
use Rattle.run_events.specs.declared.sprung.Sprung.{Sprung}

-- what came before an event sprang a macro: the event itself is left
abbrev pub sprung_before : Sprung
sprung_before = record { left = 0; why = Springs }

-- an event sprang one
abbrev pub sprung_behind : Sprung
sprung_behind = record { left = 1; why = Springs }

-- an event is done but for the text of a diversion
abbrev pub diverting : Sprung
diverting = record { left = 1; why = Diverts }

-- what stopped in front of an event: the event itself is left
abbrev pub left_before : Sprung → Sprung
left_before sprung = record sprung { left = 0 }

-- an event sprang this, if anything
abbrev pub sprung_by : Option ShortName → Option Sprung
sprung_by None = None
sprung_by (Some name) = Some sprung_behind

-- this macro is due, if there is one
abbrev pub noted : Option ShortName → Due → Due
noted None due = due
noted (Some name) due = record due { sprung = Some name }

-- a formatter in which this macro is due
abbrev pub with_sprung : ShortName → Formatter → Formatter
with_sprung name f = record f { composer = record f.composer { due = record f.composer.due { sprung = Some name } } }

-- an eject sprang a macro, and goes on
abbrev pub going_on : Sprung → Sprung
going_on sprung = record { left = 0; why = GoesOn }

-- it goes on, if it does
abbrev pub going_on_if : Bool → Sprung → Sprung
going_on_if goes_on sprung = if goes_on then going_on sprung else sprung

-- what sprang, if anything, goes on, if it does
abbrev pub left_going_on : Bool → Result (Option Sprung) Halt → Result (Option Sprung) Halt
left_going_on goes_on (Ok None) = Ok None
left_going_on goes_on (Ok (Some sprung)) = Ok (Some (going_on_if goes_on sprung))
left_going_on goes_on (Err halt) = Err halt

-- the same where so many events stand in front
abbrev pub further : ℕ → Sprung → Sprung
further count sprung = record sprung { left = sprung.left + count }

-- what was done of some events, where so many others were performed in front of them
abbrev pub further_by : ℕ → Result (Option Sprung) Halt → Result (Option Sprung) Halt
further_by count (Ok None) = Ok None
further_by count (Ok (Some sprung)) = Ok (Some (further count sprung))
further_by count (Err halt) = Err halt

-- what comes before an event stopped here, if it did: the event is left
abbrev pub first_left : Result (Option Sprung) Halt → Result (Option Sprung) Halt
first_left (Ok None) = Ok None
first_left (Ok (Some sprung)) = Ok (Some (left_before sprung))
first_left (Err halt) = Err halt

-- so many events can be told
abbrev pub HasFew : Result (Option Sprung) Halt → ℕ → Type 0
HasFew (Ok None) count = Unit {0}
HasFew (Ok (Some sprung)) count = sprung.left + count ≤ 255
HasFew (Err halt) count = Unit {0}

-- whether the first of the events that are left is an eject that goes on
abbrev pub is_going_on : Left → Bool
is_going_on GoesOn = true
is_going_on (_) = false

-- what becomes of the text of a diversion first, if that is why they are left
abbrev pub text_first : Left → Option TextDue → Option TextDue
text_first Diverts text = text
text_first (_) text = None

-- an eject goes on behind a macro alone: one is due
abbrev pub GoesOnNamed : Left → Option ShortName → Type 0
GoesOnNamed why name = is_going_on why ≡ true → name ≡ None → ⊥

-- what is left of so many events at the least, the eject among them that goes on
abbrev pub reach_of : Bool → ℕ → ℕ
reach_of goes_on left = if goes_on then left + 1 else left

-- what it speaks of is among some events
abbrev pub IsAmong : List PageEvent → Sprung → Type 0
IsAmong events sprung = reach_of (is_going_on sprung.why) sprung.left ≤ length events

-- how an event goes on behind a macro that it sprang, if it is an eject
abbrev pub event_going_on : PageEvent → PageEvent
event_going_on (Page e) = Page (eject_going_on e)
event_going_on e = e

-- some events, the first of which may be an eject that goes on
abbrev pub first_going_on : Bool → List PageEvent → List PageEvent
first_going_on goes_on [] = []
first_going_on goes_on (e ∷ events) = (if goes_on then event_going_on e else e) ∷ events

-- whether an event may be left behind a macro that it sprang, or what comes before it: a page's number springs none
abbrev pub may_be_left : PageEvent → Bool
may_be_left (Page (Number n)) = false
may_be_left e = may_spring e

-- how many of some events may be left behind a macro at the most: the first that may be, and those behind it
abbrev pub most_back : List PageEvent → ℕ
most_back [] = 0
most_back (e ∷ events) = if may_be_left e then length (e ∷ events) else most_back events

-- what is left of some events of which one stopped the list
abbrev pub left_behind : Sprung → List PageEvent → List PageEvent
left_behind sprung events = first_going_on (is_going_on sprung.why) (drop sprung.left events)

-- the same, if one of them did
abbrev pub rest_left : Option Sprung → List PageEvent → List PageEvent
rest_left None events = []
rest_left (Some sprung) events = left_behind sprung events

-- what follows an event that stopped a list, with these registers: the text changes, if it is to, and then the macro is read
abbrev pub following_of : ComposerOf → Sprung → AllRegisters → Following
following_of es sprung rs = record { text = text_first sprung.why (due_told es rs); sprung = es.due.sprung }

-- a state whose events were performed up to one that stopped the list, behind which the composer is this, or all but these
abbrev pub behind_sprung : ComposerOf → Option Sprung → List PageEvent → List PageEvent → State → State
behind_sprung es None events rest s = record s { to_do = rest }
behind_sprung es (Some sprung) events rest s = followed_by (following_of es sprung s.registers) (left_behind sprung events ++ rest) s

-- how much an open word or field counts of what is still to come
abbrev pub word_weight : Bool → ℕ
word_weight is_open = if is_open then 2 else 0

-- and what is done before a macro is read, where none is due
abbrev pub unsprung_weight : Option ShortName → ℕ
unsprung_weight None = 1
unsprung_weight (Some name) = 0

-- the first of both, and both
abbrev pub open_weight : ComposerOf → ℕ
open_weight es = word_weight (es.environments.in_force.lines.is_open || is_some es.environments.in_force.lines.field)

abbrev pub weight : ComposerOf → ℕ
weight es = open_weight es + unsprung_weight es.due.sprung

-- Events of which one stopped the list moved on: that one is done, or a macro is due, or the open word or field has ended. So no list stops
-- for ever.
abbrev pub MovesOn : Formatter → Formatter → Result (Option Sprung) Halt → Type 0
MovesOn old new (Ok None) = Unit {0}
MovesOn old new (Ok (Some sprung)) = weight new.composer ≤ open_weight old.composer + 4 * sprung.left
MovesOn old new (Err halt) = Unit {0}

-- the one that stopped it is done
abbrev pub StopsBehind : Result (Option Sprung) Halt → Type 0
StopsBehind (Ok None) = Unit {0}
StopsBehind (Ok (Some sprung)) = 1 ≤ sprung.left
StopsBehind (Err halt) = Unit {0}

-- and sprang a macro, which is due
abbrev pub StopsSprung : Result (Option Sprung) Halt → Due → Type 0
StopsSprung (Ok None) due = Unit {0}
StopsSprung (Ok (Some sprung)) due = (sprung ≡ sprung_behind) × (unsprung_weight due.sprung ≡ 0)
StopsSprung (Err halt) due = Unit {0}
