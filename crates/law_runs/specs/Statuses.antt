-- What each status says of a run that ended with it.
use Rattle.std.specs.Prelude.{◌≡◌, ◌⊎◌, true, [], Some}
use Rattle.roff_num.specs.LimitValues.{value_of}
use Rattle.roff_num.specs.declared.limits.Limits.{Limits}
use Rattle.run_model.specs.Messages.{message_line, told_line}
use Rattle.run_model.specs.Reading.Messages.{message_text_read}
use Rattle.run_model.specs.Results.{last_state, status_of}
use Rattle.run_model.specs.Run.{State}
use Rattle.run_model.specs.declared.message.Message.TheVariants.{LimitReached, ReadFailed}
use Rattle.run_model.specs.declared.status.Status.{Status}
use Rattle.run_model.specs.declared.status.Status.TheVariants.{Aborted, Done, Device, Limit as Limited}
use Rattle.run_model.specs.declared.line_state.LineState.TheVariants.{Told}
use Rattle.run_model.specs.declared.start.Start.{Start}
use Rattle.input_source.specs.Tape.{Tape, Ending, Ended, Failed, Stopped}

-- no item of a tape is left, and its items end so
pub record HasMet (ending : Ending) (rest : Tape) : Type 0 where
  pub items : rest.items ≡ []
  pub ends : rest.ending ≡ ending

-- Done: the end of the input was met, or the line of an `.ex` has closed it, and no message says so. Aborted: the line of an
-- `.ab` has ended, and the last message is its text. A fault: that of the source was met, and the last
-- message says so. A limit: one of the source's own was met, which has no message here; or one of the run, and
-- then the last message names it with its value.
abbrev pub Tells : Limits → Status → State → Type 0
Tells l Done s = (HasMet Ended s.tape ⊎ (s.is_closed ≡ true)) × (s.last_message ≡ [])
Tells l Aborted s = (s.reading ≡ Told true) × (s.last_message ≡ told_line true (message_text_read s.input))
Tells l Device s = HasMet Failed s.tape × (s.last_message ≡ message_line s.input.line ReadFailed)
Tells l (Limited limit) s =
    (HasMet (Stopped limit) s.tape × (s.last_message ≡ []))
    ⊎ (s.last_message ≡ message_line s.input.line (LimitReached limit (value_of l limit)))

-- so it is with each run
abbrev pub EachStatusTells : Type 0
EachStatusTells =
    (l : Limits) (start : Start) (tape : Tape) (status : Status) → status_of l start tape ≡ Some status → Tells l status (last_state l start tape)
