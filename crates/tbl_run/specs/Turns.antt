-- What a turn of the loop makes of the sinks.
use Rattle.std.specs.Prelude.{◌≡◌, ◌⊎◌, ℕ, ◌+◌, ◌≤◌, List, ◌++◌, length, Some, None, Result, Ok, Err}
use Rattle.page_bytes.specs.Sinks.{Fails, Sunk, Writes}
use Rattle.run_model.specs.declared.status.Status.{Status}
use Rattle.run_model.specs.declared.status.Status.TheVariants.{Device}
use Rattle.input_source.specs.Tape.{Answer, Ends, Failed}
use Rattle.tbl_options.specs.Messages.{tbl_message_line}
use Rattle.tbl_format.specs.declared.limits.TblLimits.{TblLimits}
use Rattle.tbl_options.specs.declared.message.Message.{Message}
use Rattle.tbl_options.specs.declared.message.Message.TheVariants.{WriteFailed}
use Rattle.tbl_run.specs.Run.{Written, done_with}
use Rattle.tbl_run.specs.declared.run.Counts.{Counts}

-- a sink was given what one text has behind another
pub record Adds (old new : Sunk) (from to : List ℕ) : Type 0 where
  pub more : List ℕ
  pub is : to ≡ from ++ more
  pub writes : Writes old new more

-- it failed in that
pub record FailsAdding (old new : Sunk) (from to : List ℕ) : Type 0 where
  pub more : List ℕ
  pub is : to ≡ from ++ more
  pub fails : Fails old new more

-- so much was written and told
pub record Counted (counts : Counts) (w : Written) : Type 0 where
  pub written : counts.written ≡ length w.output
  pub told : counts.told ≡ length w.messages

-- as much as the limits allow at most
pub record IsWithin (l : TblLimits) (counts : Counts) : Type 0 where
  pub written : counts.written ≤ l.output
  pub told : counts.told ≤ l.messages

-- an answer was written, and the run goes on
pub record GoesOn (l : TblLimits) (line : ℕ) (a : Answer) (w : Written) (counts : Counts) (out out' err err' : Sunk) : Type 0 where
  pub goes_on : (done_with l line a w).ended ≡ None
  pub text : Adds out out' w.output (done_with l line a w).output
  pub messages : Adds err err' w.messages (done_with l line a w).messages
  pub counted : Counted counts (done_with l line a w)
  pub within : IsWithin l counts

-- it was written, and the run ends by itself
pub record EndsItself (l : TblLimits) (line : ℕ) (a : Answer) (w : Written) (status : Status) (out out' err err' : Sunk) : Type 0 where
  pub ended : (done_with l line a w).ended ≡ Some status
  pub text : Adds out out' w.output (done_with l line a w).output
  pub messages : Adds err err' w.messages (done_with l line a w).messages
  pub fault : status ≡ Device → a ≡ Ends Failed

-- the output failed, which was told, if the other sink didn't fail in that
pub record OutFails (l : TblLimits) (line : ℕ) (a : Answer) (w : Written) (status : Status) (out out' err err' : Sunk) : Type 0 where
  pub is_device : status ≡ Device
  pub text : FailsAdding out out' w.output (done_with l line a w).output
  pub messages : let told = w.messages ++ tbl_message_line line WriteFailed in Adds err err' w.messages told ⊎ FailsAdding err err' w.messages told

-- the sink of messages failed
pub record ErrFails (l : TblLimits) (line : ℕ) (a : Answer) (w : Written) (status : Status) (out out' err err' : Sunk) : Type 0 where
  pub is_device : status ≡ Device
  pub text : out' ≡ out
  pub messages : FailsAdding err err' w.messages (done_with l line a w).messages

-- what became of an answer
abbrev pub Turned : TblLimits → ℕ → Answer → Written → Result Counts Status → Sunk → Sunk → Sunk → Sunk → Type 0
Turned l line a w (Ok counts) out out' err err' = GoesOn l line a w counts out out' err err'
Turned l line a w (Err status) out out' err err' =
    EndsItself l line a w status out out' err err' ⊎ OutFails l line a w status out out' err err' ⊎ ErrFails l line a w status out out' err err'

-- a message was told, behind which the run ends so, or the sink failed
abbrev pub Tells : ℕ → Message → Status → Status → Sunk → Sunk → Type 0
Tells line message status result err err' =
    ((result ≡ status) × Writes err err' (tbl_message_line line message))
    ⊎ ((result ≡ Device) × Fails err err' (tbl_message_line line message))

-- bytes were written at once, behind so many
pub record FrontWritten (bytes : List ℕ) (before behind : Counts) (out out' err err' : Sunk) : Type 0 where
  pub counted : behind ≡ record before { written = before.written + length bytes }
  pub text : Writes out out' bytes
  pub messages : err' ≡ err

-- or the sink failed in that, which was told
pub record FrontFails (line : ℕ) (bytes : List ℕ) (status : Status) (out out' err err' : Sunk) : Type 0 where
  pub text : Fails out out' bytes
  pub messages : Tells line WriteFailed Device status err err'

abbrev pub FrontPut : ℕ → List ℕ → Counts → Result Counts Status → Sunk → Sunk → Sunk → Sunk → Type 0
FrontPut line bytes before (Ok behind) out out' err err' = FrontWritten bytes before behind out out' err err'
FrontPut line bytes before (Err status) out out' err err' = FrontFails line bytes status out out' err err'
