-- What the code takes, as the definition takes it.
use Rattle.std.specs.Prelude.{◌≡◌, None, Some, Result, Ok, Err}
use Rattle.roff_num.specs.declared.limit.Limit.{Limit}
use Rattle.roff_num.specs.declared.limits.Limits.{Limits}
use Rattle.run_model.specs.Environments.{PageHistory}
use Rattle.run_model.specs.Events.Steps.{events_of, messages_of}
use Rattle.run_state.specs.Composer.Standing.{StandFor}
use Rattle.run_state.specs.declared.composer.Composer.{Composer as ComposerOf}
use Rattle.run_model.specs.Registers.{Known, changed_by_all}
use Rattle.run_model.specs.Registers.Capped.{Capped}
use Rattle.run_model.specs.Run.{known_at}
use Rattle.run_model.specs.Run.Counts.{counts_in, first_passed}
use Rattle.read_lines.specs.Reader.State.{ReaderState}
use Rattle.run_model.specs.declared.step.Step.{Step}
use Rattle.run_model.specs.Reading.Items.{Taking, PageUnread}

-- the code came to the input, to what is read and to the registers of a taking, no count is above its limit, and
-- nothing else changed
pub record CameTo (t : Taking) (old : Capped) (new : ReaderState) (before behind : PageUnread) : Type 0 where
  pub input : behind ≡ record before { input = t.input }
  pub reading : new.reading ≡ t.reading
  pub registers : new.registers ≡ record old { all = changed_by_all t.effect.changes old.all }
  pub within : first_passed before.limits (counts_in (changed_by_all t.effect.changes old.all) t.input) ≡ None

-- and its step means what the taking means, with the meaning that is kept
pub record Took (t : Taking) (old : Capped) (new : ReaderState) (before behind : PageUnread) (step : Step) : Type 0 where
  pub became : CameTo t old new before behind
  pub messages : messages_of new.meaning.message step ≡ t.effect.messages
  pub events : events_of new.meaning.events step ≡ t.effect.events

-- or a count would be above this limit, and none above an earlier one
abbrev pub Takes : Taking → Capped → ReaderState → PageUnread → PageUnread → Result Step Limit → Type 0
Takes t old new before behind (Ok step) = Took t old new before behind step
Takes t old new before behind (Err limit) =
    first_passed before.limits (counts_in (changed_by_all t.effect.changes old.all) t.input) ≡ Some limit

-- the registers have the limit of the unread input, and no count is above its limit
pub record IsReady (r : Capped) (u : PageUnread) : Type 0 where
  pub cap : r.cap ≡ u.limits.names
  pub line : r.line ≡ u.limits.line
  pub within : first_passed u.limits (counts_in r.all u.input) ≡ None

-- The code took what the definition takes, by what is known of the run, wherever the environments and the pages stand for a history.
pub record TakesAs (t : Known → Taking) (es : ComposerOf) (old new : ReaderState) (before behind : PageUnread)
    (result : Result Step Limit) : Type 0 where
  pub takes : (l : Limits) (h : PageHistory) → StandFor l h es → IsReady old.registers before
      → Takes (t (known_at h old.registers.all before.input)) old.registers new before behind result
