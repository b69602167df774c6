-- How a run of the code stands to the run of the definition.
use Rattle.std.specs.Prelude.{◌≡◌, ◌⊎◌, ℕ, ◌++◌, List, Some, None}
use Rattle.std.specs.Io.KnownBytes.{Appends}
use Rattle.roff_num.specs.Faults.{Rises}
use Rattle.page_bytes.specs.Devices.{AppendsBetween, NoSinkFault, Seen}
use Rattle.page_bytes.specs.Sinks.{CountsFault}
use Rattle.run_model.specs.declared.status.Status.{Status}
use Rattle.run_model.specs.declared.status.Status.TheVariants.{Device}
use Rattle.input_source.specs.Tape.{Item, Tape, Took, items_then}
use Rattle.tbl_format.specs.declared.limits.TblLimits.{TblLimits}
use Rattle.tbl_options.specs.declared.message.Message.TheVariants.{WriteFailed}
use Rattle.tbl_options.specs.Messages.{tbl_message_line}
use Rattle.tbl_core.specs.Tables.{line_of}
use Rattle.tbl_run.specs.Run.{State, initial, step, steps}

-- the run comes to this state in so many steps, and hasn't ended before it
pub record Comes (l : TblLimits) (line_length : ℕ) (t : Tape) (s : State) : Type 0 where
  pub count : ℕ
  pub is : steps l line_length count (initial t) ≡ s
  pub goes_on : s.written.ended ≡ None

-- The run ended by itself, with all of it written and reported without a fault of a sink, and left what is to come behind its last step. If by a
-- fault, the source's: its count rose.
pub record Completes (l : TblLimits) (line_length : ℕ) (t left : Tape) (status : Status) (before now : Seen) : Type 0 where
  pub state : State
  pub comes : Comes l line_length t state
  pub ended : (step l line_length state).written.ended ≡ Some status
  pub rest : left ≡ (step l line_length state).stage.tape
  pub text : Appends before.out.contents now.out.contents (step l line_length state).written.output
  pub messages : Appends before.err.contents now.err.contents (step l line_length state).written.messages
  pub faults : NoSinkFault before now
  pub fault : status ≡ Device → Rises before.failures now.failures

-- The output failed, once, in the step from this state: what was written is a beginning of that step's text, behind all before it.
-- The fault is reported with the line of the last byte that was taken; of this message a beginning alone was written if the
-- message sink failed too.
pub record OutputFails (l : TblLimits) (line_length : ℕ) (t left : Tape) (status : Status) (before now : Seen) : Type 0 where
  pub is_device : status ≡ Device
  pub state : State
  pub comes : Comes l line_length t state
  pub rest : left ≡ (step l line_length state).stage.tape
  pub text : AppendsBetween before.out.contents now.out.contents state.written.output (step l line_length state).written.output
  pub fault : CountsFault before.out.failures now.out.failures
  pub messages : let line = line_of (step l line_length state).stage.at.standing in
      let told = state.written.messages ++ tbl_message_line line WriteFailed in
      (Appends before.err.contents now.err.contents told × (now.err.failures ≡ before.err.failures))
      ⊎ (AppendsBetween before.err.contents now.err.contents state.written.messages told × CountsFault before.err.failures now.err.failures)

-- The message sink failed, once, in the step from this state: what was reported is a beginning of that step's messages, behind all
-- before it. The text is that of the steps before, and the output had no fault.
pub record MessagesFail (l : TblLimits) (line_length : ℕ) (t left : Tape) (status : Status) (before now : Seen) : Type 0 where
  pub is_device : status ≡ Device
  pub state : State
  pub comes : Comes l line_length t state
  pub rest : left ≡ (step l line_length state).stage.tape
  pub text : Appends before.out.contents now.out.contents state.written.output
  pub messages : AppendsBetween before.err.contents now.err.contents state.written.messages (step l line_length state).written.messages
  pub fault : CountsFault before.err.failures now.err.failures
  pub output_stays : now.out.failures ≡ before.out.failures

-- a run over a tape, of which this is left, comes to one of these
abbrev pub TblOutcome : TblLimits → ℕ → Tape → Tape → Status → Seen → Seen → Type 0
TblOutcome l line_length t left status before now =
    Completes l line_length t left status before now
    ⊎ OutputFails l line_length t left status before now
    ⊎ MessagesFail l line_length t left status before now

-- A run over a source that might give the tapes `old` and may now give the tapes `new`. It took items;
-- whatever may still come, the run over these items and then that is the definition's.
pub record PutsTables (l : TblLimits) (line_length : ℕ) (status : Status) (old new : Tape → Type 0) (before now : Seen) : Type 0 where
  pub taken : List Item
  pub took : Took old new taken
  pub outcome : (left : Tape) → new left → TblOutcome l line_length (items_then taken left) left status before now
