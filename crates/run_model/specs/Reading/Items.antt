-- What one item of the input does: what is read behind it, and what it means (manual, section 1.1).
use Rattle.std.specs.Prelude.{List, [], ◌∷◌, ◌++◌}
use Rattle.input_escapes.specs.OpenEscapes.{Reads}
use Rattle.input_model.specs.Input.{Input}
use Rattle.input_escapes.specs.declared.open_escape.Found.{Found}
use Rattle.input_escapes.specs.declared.open_escape.Remark.{Remark}
use Rattle.run_model.specs.Messages.{remark_message}
use Rattle.run_model.specs.declared.line_state.LineState.{LineState}
use Rattle.run_model.specs.Requests.{PageEvent, Effect, doing, saying}
use Rattle.input_model.specs.Unread.{Unread}

-- the input, as a run of the formatter has it
abbrev pub PageInput : Type 0
PageInput = Input PageEvent

-- what one item does: the input and what is read behind it, and what it means
pub record Taking : Type 0 where
  pub input : PageInput
  pub reading : LineState
  pub effect : Effect

-- this is read on, and nothing is meant yet
abbrev pub going_on : PageInput → LineState → Taking
going_on i reading = record { input = i; reading = reading; effect = doing [] }

-- this is read on behind some events
abbrev pub meaning_events : PageInput → LineState → List PageEvent → Taking
meaning_events i reading events = record { input = i; reading = reading; effect = doing events }

-- what is meant behind some events
abbrev pub behind_events : List PageEvent → Taking → Taking
behind_events events t = record t { effect = record t.effect { events = events ++ t.effect.events } }

-- something that was read within a text that is measured, or a condition, and of which this is said
abbrev pub telling : PageInput → LineState → Remark → Taking
telling i reading remark = record {
  input = i;
  reading = reading;
  effect = saying (remark_message remark ∷ []) [];
}

-- what something read does this, with what is half read then
abbrev pub read_by : (PageInput → Found → Taking) → PageInput → Reads → Taking
read_by does i r = does (record i { escapes = r.1 }) r.0

-- the unread input of a run
abbrev pub PageUnread : Type 0
PageUnread = Unread PageEvent
