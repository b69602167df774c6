-- Laws over traps of pages, and ejects (manual, sections 3 and 7.5).
use Rattle.std.specs.Prelude.{◌≡◌, ◌≢◌, ◌⊎◌, ℕ, suc, ◌<◌, true, false, List, [], ◌∷◌, ◌++◌, Option, Some, None, IsSome, is_some}
use Rattle.std.specs.List.{AllByRecursion}
use Rattle.roff_num.specs.declared.limits.Limits.{Limits}
use Rattle.roff_num.specs.declared.short_name.ShortName.{ShortName}
use Rattle.input_model.specs.Input.{Ahead, DoAhead}
use Rattle.page_model.specs.declared.layout_event.LayoutEvent.{LayoutEvent}
use Rattle.page_model.specs.declared.layout_event.LayoutEvent.TheVariants.{Eject, EjectOn, EjectTo}
use Rattle.page_model.specs.declared.trap.Trap.{Trap}
use Rattle.page_model.specs.Happenings.{Happening, Does, is_eject_event}
use Rattle.page_model.specs.Layout.{Layout, page_place}
use Rattle.page_model.specs.Puts.{puts}
use Rattle.roff_pages.specs.Reach.{IsMetAtEnd, place_before, place_behind}
use Rattle.page_model.specs.Stops.{is_diverted, place_of}
use Rattle.run_model.specs.Layouts.{happens, layout_of}
use Rattle.run_model.specs.PageEvents.{PageEvent, PageHistory, PastEvent}
use Rattle.run_model.specs.Run.{Leads, State, after}
use Rattle.run_model.specs.Springs.{eject_going_on, springs}
use Rattle.run_model.specs.declared.event.PageEvent.TheVariants.{Page}
use Rattle.run_model.specs.declared.line_state.LineState.TheVariants.{Exiting}
use Rattle.run_model.specs.declared.phase.Phase.TheVariants.{Closing}

-- Each event springs one macro at the most, and the places of all traps that it passes on a page are the one where it ends.
abbrev pub OneEventSpringsOneMacro : Type 0
OneEventSpringsOneMacro =
    (h : PageHistory) (e : PastEvent) (x : Happening) → happens h e ≡ Some x → is_diverted x (layout_of h) ≡ false
    → AllByRecursion (λ t. IsMetAtEnd (place_before x (layout_of h)) (place_behind x (layout_of h)) (place_of (layout_of h).length t.place))
    (layout_of h).traps

-- a trap of this name that is planted lies at the place that is reached on the page
pub record IsReached (L : Layout) (name : ShortName) : Type 0 where
  pub front : List Trap
  pub trap : Trap
  pub behind : List Trap
  pub planted : L.traps ≡ front ++ trap ∷ behind
  pub named : trap.name ≡ name
  pub lies : place_of L.length trap.place ≡ Some (page_place L)

-- The macro that an event of a page springs finds the page filled up to its trap, and below that the rest: the lines of the page above the
-- trap, and no more, stand there.
abbrev pub MacrosFindTheRestOfThePage : Type 0
MacrosFindTheRestOfThePage =
    (h : PageHistory) (e : PastEvent) (x : Happening) (name : ShortName) → happens h e ≡ Some x → is_diverted x (layout_of h) ≡ false
    → springs h e ≡ Some name → IsReached (layout_of (e ∷ h)) name

-- the count of the page that an eject is for, if it is for one; the last one is for whatever page there is
abbrev pub asked_by : LayoutEvent → Option ℕ
asked_by (Eject asked) = Some asked
asked_by (EjectTo asked number) = Some asked
asked_by (EjectOn asked) = Some asked
asked_by (_) = None

-- an eject of a page that isn't the one in force does nothing: it neither puts anything nor sets a number
abbrev pub EjectsOfOtherPagesDoNothing : Type 0
EjectsOfOtherPagesDoNothing =
    (h : PageHistory) (e : LayoutEvent) (asked : ℕ) → asked_by e ≡ Some asked → (layout_of h).begun ≢ asked →
    (layout_of (Page e ∷ h) ≡ layout_of h) × (springs h (Page e) ≡ None)

-- whether an event is among these
abbrev pub IsAmong : PageEvent → List PageEvent → Type 0
IsAmong e [] = ⊥
IsAmong e (x ∷ events) = (x ≡ e) ⊎ IsAmong e events

-- whether it is among those that were put back
abbrev pub IsPutBack : PageEvent → List (Ahead PageEvent) → Type 0
IsPutBack e [] = ⊥
IsPutBack e (item ∷ items) = (item ≡ DoAhead e) ⊎ IsPutBack e items

-- an event waits: it is to be done, or it was put back
abbrev pub Waits : PageEvent → State → Type 0
Waits e s = IsAmong e s.to_do ⊎ IsPutBack e s.input.ahead

-- an eject begins in a state: it is what is done there first, as no text of a diversion is to change, for the page in force, and puts
-- something
pub record BeginsToEject (e : LayoutEvent) (s : State) : Type 0 where
  pub going : s.ended ≡ None
  pub no_text : s.follows.text ≡ None
  pub rest : List PageEvent
  pub first : s.to_do ≡ Page e ∷ rest
  pub is_eject : is_eject_event e ≡ true
  pub puts_some : is_some (puts (Does e) (layout_of s.history)) ≡ true

-- the line of an `ex` was read before the run closes: in the next step all that waits is dropped
pub record LeavesInput (s : State) : Type 0 where
  pub read : s.reading ≡ Exiting
  pub reads : s.phase ≢ Closing

-- An eject of the page of a count has come so far, from where it began: its page has ended, as another one was begun; or it waits to go
-- on; or the run ended; or an `ex` on the way has left all that waited.
pub data HasCome (l : Limits) (from : State) (e : LayoutEvent) (count : ℕ) (s : State) : Type 0 where
  PageEnded : count < (layout_of s.history).begun → HasCome l from e count s
  GoesOn : (layout_of s.history).begun ≡ count → Waits (Page (eject_going_on e)) s → HasCome l from e count s
  RunEnded : IsSome s.ended → HasCome l from e count s
  InputLeft : (at : State) → Leads l from at → LeavesInput at → Leads l at s → HasCome l from e count s

-- An eject ends the page that it was asked on, or the run ends, whatever macros spring on the way: behind each number of steps, whatever
-- messages they tell, it has done so, or else it waits, and is on that page yet; but an `ex` on the way leaves it, as all that waits.
abbrev pub EjectsEndTheirPage : Type 0
EjectsEndTheirPage =
    (l : Limits) (e : LayoutEvent) (s : State) (n : ℕ) → BeginsToEject e s → HasCome l s e (layout_of s.history).begun (after l (suc n) s)
