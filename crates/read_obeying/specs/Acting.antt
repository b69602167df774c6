-- What the code does for a request, as the definition does it.
use Rattle.std.specs.Prelude.{◌≡◌, ℕ, Bool, true, false, List, Result, Ok, Err, reverse}
use Rattle.roff_num.specs.declared.limit.Limit.{Limit}
use Rattle.roff_num.specs.declared.limit.Limit.TheVariants.{Names}
use Rattle.roff_num.specs.declared.limits.Limits.{Limits}
use Rattle.run_state.specs.Composer.Standing.{StandFor}
use Rattle.run_state.specs.declared.composer.Composer.{Composer as ComposerOf}
use Rattle.read_requests.specs.Request.Coded.{calls_of, changes_of}
use Rattle.read_requests.specs.declared.requests.effects.Changes.{Changes}
use Rattle.run_model.specs.Environments.{PageHistory}
use Rattle.run_model.specs.Events.Steps.{events_of, messages_of}
use Rattle.run_model.specs.Reading.Arguments.{calling_all}
use Rattle.run_model.specs.Reading.Items.{PageUnread}
use Rattle.run_model.specs.Registers.{Change, changed_by_all}
use Rattle.run_model.specs.Registers.Capped.{Capped, is_past_cap}
use Rattle.run_model.specs.Requests.{Effect, request_effect}
use Rattle.run_model.specs.Run.{known_at}
use Rattle.run_model.specs.declared.request.Request.{Request}
use Rattle.run_model.specs.declared.step.Step.{Step}
use Rattle.read_meaning.specs.Meaning.{MeaningKept}

-- registers behind some changes
abbrev pub behind_changes : List Change → Capped → Capped
behind_changes changes r = record r { all = changed_by_all changes r.all }

-- the registers changed so, and no more names have one than may, if none did before
pub record ChangedTo (changes : List Change) (old new : Capped) : Type 0 where
  pub registers : new ≡ behind_changes changes old
  pub within : is_past_cap old ≡ false → is_past_cap new ≡ false

-- more names than may would have one
pub record Refused (changes : List Change) (old : Capped) (limit : Limit) : Type 0 where
  pub limit_is : limit ≡ Names
  pub past : is_past_cap (behind_changes changes old) ≡ true

-- registers changed so, unless more names than may would have one
abbrev pub Changed : List Change → Capped → Capped → Result (Unit {0}) Limit → Type 0
Changed changes old new (Ok done) = ChangedTo changes old new
Changed changes old new (Err limit) = Refused changes old limit

-- the registers, and the meaning that is kept for a step
pub record Kept : Type 0 where
  pub registers : Capped
  pub meaning : MeaningKept

abbrev pub kept : Capped → MeaningKept → Kept
kept registers meaning = record { registers = registers; meaning = meaning }

-- the arguments that were read
abbrev pub texts_read : PageUnread → List (List ℕ)
texts_read u = reverse u.input.arguments.whole

-- the code came to an effect: it changed what the effect changes, which is what a request of the code may, and its step means the rest
pub record CameToEffect (e : Effect) (old new : Kept) (before behind : PageUnread) (step : Step) : Type 0 where
  pub asked : Changes
  pub changes : e.changes ≡ changes_of (texts_read before) asked
  pub calls : e.calls ≡ calls_of (texts_read before) asked
  pub changed : ChangedTo e.changes old.registers new.registers
  pub called : behind ≡ record before { input = calling_all e.calls before.input }
  pub messages : messages_of new.meaning.message step ≡ e.messages
  pub events : events_of new.meaning.events step ≡ e.events

-- or more names than may would have a register
abbrev pub DoesEffect : Effect → Kept → Kept → PageUnread → PageUnread → Result Step Limit → Type 0
DoesEffect e old new before behind (Ok step) = CameToEffect e old new before behind step
DoesEffect e old new before behind (Err limit) = Refused e.changes old.registers limit

-- the code did what a request does with the arguments that were read, wherever the environments and the pages stand for a history
pub record Acts (breaks : Bool) (request : Request) (es : ComposerOf) (old new : Kept) (before behind : PageUnread) (result : Result Step Limit) : Type 0 where
  pub acts : (l : Limits) (h : PageHistory) → StandFor l h es
      → DoesEffect (request_effect (known_at h old.registers.all before.input) breaks request (texts_read before)) old new before behind result
