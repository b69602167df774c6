-- Room for events that are put back: few stand in front of a run, and none where a condition decided, until that is read.
use Rattle.std.specs.Prelude.{◌≡◌, ◌-◌, ◌+◌, ◌≤◌, Bool, true, false, List, ◌∷◌, Some, length}
use Rattle.input_model.specs.Input.{Ahead, events_ahead, most_events}
use Rattle.input_model.specs.Input.Few.{AreFewFrom}
use Rattle.input_model.specs.Shown.{SeesNothing, seen_ahead}
use Rattle.input_escapes.specs.Conditions.{is_decided}
use Rattle.input_escapes.specs.OpenEscape.{OpenEscape, Size, Condition}
use Rattle.run_events.specs.Formatter.Sprung.{most_back}
use Rattle.run_model.specs.PageEvents.{PageEvent}
use Rattle.run_model.specs.Reading.Items.{PageInput, PageUnread}
use Rattle.run_model.specs.declared.line_state.LineState.{LineState}
use Rattle.run_model.specs.declared.line_state.LineState.TheVariants.{Deciding}

-- whether a condition that decided is next of what is half read: on top, or below sizes
abbrev pub decides_next : List OpenEscape → Bool
decides_next (Condition part text ∷ rest) = is_decided part
decides_next (Size part ∷ rest) = decides_next rest
decides_next (_) = false

-- So few events stand in front that those of these can be put back which may be left. Where a condition that decided is next none
-- stands there before an end, and none is left: it was taken with a byte, and the byte that it frees may begin a text line.
pub record FewFor (events : List PageEvent) (reading : LineState) (half : List OpenEscape) (items : List (Ahead PageEvent)) : Type 0 where
  pub few : AreFewFrom (5 - most_back events) items
  pub decided : (keeps : Bool) → reading ≡ Deciding keeps → decides_next half ≡ true → AreFewFrom 0 items × (most_back events ≡ 0)

-- where a condition that decided is next something else is seen in front than an event
abbrev pub SeesOn : PageInput → Type 0
SeesOn i = decides_next i.escapes ≡ true → seen_ahead i.ahead ≡ Some SeesNothing → ⊥

-- so many events can be put back before this unread input, if there are any
abbrev pub HasRoom : List PageEvent → PageUnread → Type 0
HasRoom events u = 1 ≤ length events → events_ahead u.input.ahead + length events ≤ most_events u.limits.depth
