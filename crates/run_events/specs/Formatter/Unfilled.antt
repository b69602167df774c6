-- Text lines that stand in front up to their newlines, and are told and ended at once.
use Rattle.std.specs.Prelude.{◌≡◌, ℕ, ◌<◌, true, List, [], ◌∷◌, Option, None, Result, Ok, length, take, take_while, slice_index_or}
use Rattle.page_model.specs.Layout.{Layout}
use Rattle.page_model.specs.Queries.{takes_text}
use Rattle.page_model.specs.declared.event.Event.TheVariants.{Count, LineEnd, WordEnd}
use Rattle.roff_lines.specs.Env.Unfilled.{EndsLine}
use Rattle.roff_pages.specs.Pages.Stands.{StandsAs}
use Rattle.input_source.specs.Bytes.{is_text_byte, newline}
use Rattle.run_model.specs.PageEvents.{PageEvent}
use Rattle.run_model.specs.declared.event.PageEvent.TheVariants.{Text}
use Rattle.page_bytes.specs.Sinks.{Sunk}
use Rattle.run_events.specs.declared.formatter.Formatter.{Formatter}
use Rattle.run_events.specs.declared.halt.Halt.{Halt}
use Rattle.run_events.specs.declared.sprung.Sprung.{Sprung}
use Rattle.run_events.specs.Formatter.Performing.{PerformsEvents}
use Rattle.run_events.specs.Formatter.Telling.{TellsFront, most_at_once}

-- of these bytes so many from the first on are plain text, with so many gaps among them, and then a newline: they can be told with the end
-- of the line at once
pub record StandsNear (near : List ℕ) (count gaps : ℕ) (f : Formatter) : Type 0 where
  pub counted : count ≡ length (take_while is_text_byte near)
  pub within : count < length near
  pub ended : slice_index_or near count 0 ≡ newline
  pub takes : (L : Layout) → StandsAs L f.composer.pages → takes_text L ≡ true
  pub ends : EndsLine near count gaps f.composer.environments.in_force.lines

-- the same of those that stand in front, of which so many are told at once at the most
abbrev pub StandsLine : List ℕ → ℕ → ℕ → Formatter → Type 0
StandsLine front count gaps f = StandsNear (take most_at_once front) count gaps f

-- so many bytes in front were told, and the open word ended; then these events were performed, as far as the answer says
pub record PutsBehind (events : List PageEvent) (front : List ℕ) (count : ℕ) (old new : Formatter) (out_old out_new : Sunk) (result : Result (Option Sprung) Halt) : Type 0 where
  pub told : Formatter
  pub tells : TellsFront front count old told
  pub ended : Formatter
  pub word : (out : Sunk) → PerformsEvents (Text WordEnd ∷ []) told ended out out (Ok None)
  pub performs : PerformsEvents events ended new out_old out_new result

-- so many bytes in front were told, and then the end of the line was performed, as far as the answer says
pub record PutsLine (front : List ℕ) (count : ℕ) (old new : Formatter) (out_old out_new : Sunk) (result : Result (Option Sprung) Halt) : Type 0 where
  pub told : Formatter
  pub tells : TellsFront front count old told
  pub performs : PerformsEvents (Text WordEnd ∷ Text LineEnd ∷ Text Count ∷ []) told new out_old out_new result
