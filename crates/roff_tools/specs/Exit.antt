-- How the program ends.
use Rattle.std.specs.Prelude.{ℕ, Bool, true, false}
use Rattle.run_model.specs.declared.status.Status.{Status}
use Rattle.run_model.specs.declared.status.Status.TheVariants as status
use Rattle.roff_tools.specs.declared.exit.Exit.{Exit}
use Rattle.roff_tools.specs.declared.exit.Exit.TheVariants.{Done, NotStarted, DeviceFailed, LimitReached, Aborted}

-- the status that the program exits with
abbrev pub exit_number : Exit → ℕ
exit_number Done = 0
exit_number NotStarted = 1
exit_number DeviceFailed = 2
exit_number LimitReached = 3
exit_number Aborted = 4

-- how the program ends after a run that ended so
abbrev pub exit_after : Status → Exit
exit_after status.Done = Done
exit_after status.Device = DeviceFailed
exit_after status.Aborted = Aborted
exit_after (status.Limit limit) = LimitReached

-- how it ends once its output or its messages are flushed, or that failed: where nothing was started, that is what it tells
abbrev pub exit_flushed : Exit → Bool → Exit
exit_flushed exit true = exit
exit_flushed NotStarted false = NotStarted
exit_flushed Done false = DeviceFailed
exit_flushed DeviceFailed false = DeviceFailed
exit_flushed LimitReached false = DeviceFailed
exit_flushed Aborted false = DeviceFailed
