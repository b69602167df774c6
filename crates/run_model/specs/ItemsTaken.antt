-- A run that takes items, and the bytes that it takes in one step each.
use Rattle.std.specs.Prelude.{◌≡◌, ℕ, ◌<◌, false, List, [], ◌∷◌, Some, None}
use Rattle.roff_num.specs.declared.limits.Limits.{Limits}
use Rattle.input_escapes.specs.Waiting.{is_ended_by}
use Rattle.input_model.specs.Input.{Ahead, ByteAhead, item_taken, counting}
use Rattle.input_source.specs.Tape.{Gives, OneByte, front}
use Rattle.run_model.specs.Reading.Ends.{due}
use Rattle.run_model.specs.Requests.{PageEvent}
use Rattle.run_model.specs.Run.{State, nothing_follows, made, byte_taken, moved, step}

-- a run takes items: it hasn't ended, its source isn't closed, and there is nothing to do first, nothing that sprang, and nothing due
pub record TakesItems (s : State) : Type 0 where
  pub going : s.ended ≡ None
  pub is_open : s.is_closed ≡ false
  pub idle : s.to_do ≡ []
  pub unsprung : s.follows ≡ nothing_follows
  pub none_due : due s.reading ≡ None

-- a byte ahead that doesn't end what is half read is taken in one step, at the cost of one
abbrev pub BytesAheadAreTaken : Type 0
BytesAheadAreTaken =
    (l : Limits) (s : State) (b : ℕ) (behind : List (Ahead PageEvent)) → TakesItems s → s.input.ahead ≡ ByteAhead b ∷ behind →
    is_ended_by s.input.escapes (Some b) ≡ false → s.input.charge < l.bytes →
    step l s ≡ made l s (byte_taken b (record s { input = item_taken (ByteAhead b) behind s.input }))

-- and so is a byte of the source where nothing is ahead: it is counted
abbrev pub BytesOfTheSourceAreTaken : Type 0
BytesOfTheSourceAreTaken =
    (l : Limits) (s : State) (b : ℕ) → TakesItems s → s.input.ahead ≡ [] → front s.tape ≡ Gives (OneByte b) →
    is_ended_by s.input.escapes (Some b) ≡ false → s.input.charge < l.bytes →
    step l s ≡ made l s (byte_taken b (moved (record s { input = counting b s.input })))
