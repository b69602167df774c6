-- What a run in memory gives of the definition's result.
use Rattle.std.specs.Prelude.{◌≡◌, ℕ, Some}
use Rattle.roff_num.specs.declared.limits.Limits.{Limits}
use Rattle.run_model.specs.declared.start.Start.{Start}
use Rattle.run_model.specs.Results.{output_of, messages_of, status_of}
use Rattle.input_source.specs.Tape.{Tape}
use Rattle.page_bytes.specs.Devices.{seen}
use Rattle.cli_devices.specs.Memory.{kept_by}
use Rattle.cli_devices.specs.WatchedSink.Telling.{IsSound, nothing_told, told_by}
use Rattle.cli_devices.specs.declared.watched.WatchedSink.{WatchedSink}
use Rattle.tbl_format.specs.declared.limits.TblLimits.{TblLimits}
use Rattle.tbl_run.specs.Results.{tbl_messages_of, tbl_output_of, tbl_status_of}
use Rattle.roff_tools.specs.Jobs.{RunsJob}
use Rattle.roff_tools.specs.declared.in_memory.Formatted.{Formatted}
use Rattle.roff_tools.specs.declared.in_memory.Room.{Room}
use Rattle.roff_tools.specs.declared.job.Job.{Job}

-- all of it: what the definition writes and reports, and its status
pub record IsWholeResult (l : Limits) (start : Start) (t : Tape) (f : Formatted) : Type 0 where
  pub output : f.output.items ≡ output_of l start t
  pub messages : f.messages.items ≡ messages_of l start t
  pub status : Some f.status ≡ status_of l start t

-- the same of a run of `tbl`
pub record IsWholeTblResult (l : TblLimits) (line_length : ℕ) (t : Tape) (f : Formatted) : Type 0 where
  pub output : f.output.items ≡ tbl_output_of l line_length t
  pub messages : f.messages.items ≡ tbl_messages_of l line_length t
  pub status : Some f.status ≡ tbl_status_of l line_length t

-- the job ran over a tape, to sinks that were given nothing before, and what they kept is what it gave
pub record RanInMemory (job : Job) (t : Tape) (room : Room) (f : Formatted) : Type 0 where
  pub left : Tape
  pub faults_before : ℕ
  pub faults : ℕ
  pub out : WatchedSink
  pub err : WatchedSink
  pub runs : RunsJob job f.status (λ u. u ≡ t) (λ u. u ≡ left)
      (seen faults_before (nothing_told room.output) (nothing_told room.messages)) (seen faults (told_by out) (told_by err))
  pub output : f.output.items ≡ kept_by out.sink
  pub messages : f.messages.items ≡ kept_by err.sink
  pub out_sound : IsSound out
  pub err_sound : IsSound err
