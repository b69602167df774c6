-- A run of the command `tbl`: what it writes and reports, an answer of its source a step (Lesk, "Usage").
use Rattle.std.specs.Prelude.{ℕ, zero, suc, List, [], ◌∷◌, ◌++◌, length, nat_lt, Option, Some, None, if◌then◌else◌}
use Rattle.roff_num.specs.declared.limit.Limit.TheVariants.{Messages, Output}
use Rattle.run_model.specs.declared.status.Status.{Status}
use Rattle.run_model.specs.declared.status.Status.TheVariants.{Done, Device, Limit as Limited}
use Rattle.input_source.specs.Tape.{Answer, Ended, Ends, Failed, Gives, OneByte, OneNote, Stopped, Tape}
use Rattle.tbl_format.specs.declared.limits.TblLimits.{TblLimits}
use Rattle.tbl_options.specs.declared.message.Message.{Message}
use Rattle.tbl_options.specs.declared.message.Message.TheVariants.{LimitReached, ReadFailed}
use Rattle.tbl_options.specs.Messages.{tbl_message_line}
use Rattle.tbl_core.specs.Stages.{Stage, answered}
use Rattle.tbl_core.specs.Tables.{line_of}
use Rattle.tbl_core.specs.Yields.{at_start}

-- what was written and reported, and how the run ended
pub record Written : Type 0 where
  pub output : List ℕ
  pub messages : List ℕ
  pub ended : Option Status

-- the same, and how its source stands
pub record State : Type 0 where
  pub stage : Stage
  pub written : Written

-- before the first step
abbrev pub initial : Tape → State
initial t = record {
  stage = record { tape = t; at = at_start };
  written = record { output = []; messages = []; ended = None };
}

-- the run ends so behind a message of its own, which names this line
abbrev pub ends_telling : ℕ → Message → Status → Written → Written
ends_telling line message status w = record w { messages = w.messages ++ tbl_message_line line message; ended = Some status }

-- a byte is written, unless it would pass the limit
abbrev pub byte_written : TblLimits → ℕ → ℕ → Written → Written
byte_written l line b w =
    if nat_lt (length w.output) l.output
    then record w { output = w.output ++ b ∷ [] }
    else ends_telling line (LimitReached Output l.output) (Limited Output) w

-- a note of the source is told whole, unless the messages would pass the limit: then the run ends there
abbrev pub note_told : TblLimits → ℕ → List ℕ → Written → Written
note_told l line message w =
    if nat_lt l.messages (length (w.messages ++ message))
    then ends_telling line (LimitReached Messages l.messages) (Limited Messages) w
    else record w { messages = w.messages ++ message }

-- what an answer does, where the last byte that was taken stands on this line
abbrev pub done_with : TblLimits → ℕ → Answer → Written → Written
done_with l line (Gives (OneByte b)) w = byte_written l line b w
done_with l line (Gives (OneNote message)) w = note_told l line message w
done_with l line (Ends Ended) w = record w { ended = Some Done }
done_with l line (Ends Failed) w = ends_telling line ReadFailed Device w
done_with l line (Ends (Stopped limit)) w = record w { ended = Some (Limited limit) }

-- a step
abbrev pub step : TblLimits → ℕ → State → State
step l line_length s =
    let next = answered l line_length s.stage in
    record { stage = next.stage; written = done_with l (line_of next.stage.at.standing) next.answer s.written }

-- so many steps
abbrev pub steps : TblLimits → ℕ → ℕ → State → State
steps l line_length zero s = s
steps l line_length (suc n) s = step l line_length (steps l line_length n s)
