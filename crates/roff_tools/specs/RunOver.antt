-- A run of a command over readers.
use Rattle.std.specs.Prelude.{◌≡◌, ℕ, List, Option}
use Rattle.input_source.specs.Tape.{Ending, Tape}
use Rattle.input_source.specs.ReadSource.Reach.{CountsFaults, MayGive}
use Rattle.run_model.specs.declared.status.Status.{Status}
use Rattle.page_bytes.specs.Devices.{seen}
use Rattle.page_bytes.specs.Sinks.{Sunk}
use Rattle.roff_tools.specs.Exit.{exit_after}
use Rattle.roff_tools.specs.Jobs.{RunsJob}
use Rattle.cli_devices.specs.Inputs.Part.{AreNamed}
use Rattle.cli_devices.specs.Inputs.Giving.{inputs_give}
use Rattle.roff_tools.specs.declared.exit.Exit.{Exit}
use Rattle.roff_tools.specs.declared.job.Job.{Job}
use Rattle.cli_devices.specs.declared.inputs.Part.{Part}

-- A run over what a reader gives: behind it the bytes that were read and not taken, and the reader, are left. A fault was
-- answered exactly where that is how the input ended. The sinks tell one thing before it and another behind it.
pub record RunsOver {R : Type 0} (gives : R → Tape → Type 0) (reader : R) (job : Job) (status : Status) (out out' err err' : Sunk) : Type 0 where
  pub rest : R
  pub left : List ℕ
  pub ending : Option Ending
  pub failures : ℕ
  pub counted : CountsFaults ending failures
  pub runs : RunsJob job status (gives reader) (MayGive left (gives rest) ending) (seen 0 out err) (seen failures out' err')

-- the job ran over what the names stand for, one part after another, and the program ends as the run did
pub record Performs {F S : Type 0} (opens : List ℕ → F → Type 0) (stands : S → Type 0)
    (file : F → Tape → Type 0) (standard : S → Tape → Type 0)
    (names : List (List ℕ)) (job : Job) (exit : Exit) (out out' err err' : Sunk) : Type 0 where
  pub parts : List (Part F S)
  pub named : AreNamed opens stands names parts
  pub status : Status
  pub ends : exit ≡ exit_after status
  pub runs : RunsOver (inputs_give file standard) parts job status out out' err err'
