-- What a meaning has that is kept.
use Rattle.std.specs.Prelude.{Bool, List, [], ◌∷◌, Option, None, if◌then◌else◌, ◌≡◌}
use Rattle.page_model.specs.declared.event.Event.TheVariants.{Resume}
use Rattle.run_model.specs.Events.Lines.{line_events}
use Rattle.run_model.specs.declared.event.LineEvents.{LineEvents}
use Rattle.run_model.specs.PageEvents.{PageEvent}
use Rattle.run_model.specs.declared.event.PageEvent.TheVariants.{Text}
use Rattle.run_model.specs.declared.message.Message.{Message}
use Rattle.read_meaning.specs.Events.{BreakNotFirst}

-- a message, if there is one, and events
pub record MeaningKept : Type 0 where
  pub message : Option Message
  pub events : List PageEvent

-- neither
abbrev pub nothing_kept : MeaningKept
nothing_kept = record { message = None; events = [] }

-- behind the event that an interrupted line goes on, if it does
abbrev pub resumed_if : Bool → List PageEvent → List PageEvent
resumed_if resumes events = if resumes then Text Resume ∷ events else events

-- the events of a request, or those of a text line, with which an interrupted one may go on
abbrev pub kept_events : Bool → List PageEvent → Bool → LineEvents → List PageEvent
kept_events is_request requested resumes line = if is_request then requested else resumed_if resumes (line_events line)

-- these are a request's that don't begin with those of a break, or a text line's
pub data IsWithoutBreak (events : List PageEvent) : Type 0 where
  OfRequest : BreakNotFirst events → IsWithoutBreak events
  OfLine : (resumes : Bool) (line : LineEvents) → events ≡ resumed_if resumes (line_events line) → IsWithoutBreak events
