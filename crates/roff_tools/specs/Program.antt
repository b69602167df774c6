-- What the program does.
use Rattle.std.specs.Prelude.{◌≡◌, ◌⊎◌, ℕ, false, true, List, Option, Some, None, Result, is_ok}
use Rattle.clap.specs.Words.{Row, Text, fault_of, subcommand_of, takes}
use Rattle.input_source.specs.Tape.{Tape}
use Rattle.page_bytes.specs.Sinks.{Sunk}
use Rattle.page_bytes.specs.declared.sink.SinkFault.{SinkFault}
use Rattle.cli_words.specs.CommandLine.{AreMistaken, AskForHelp, asked_by, files_asked, roff_app}
use Rattle.cli_words.specs.Preparing.{words_prepared}
use Rattle.cli_words.specs.declared.request.Asked.{Asked}
use Rattle.cli_devices.specs.Buffered.{Finishes}
use Rattle.roff_tools.specs.Exit.{exit_flushed, exit_number}
use Rattle.run_model.specs.declared.start.Start.{Start}
use Rattle.roff_tools.specs.Jobs.{job_of, start_asked}
use Rattle.roff_tools.specs.RunOver.{Performs}
use Rattle.roff_tools.specs.declared.exit.Exit.{Exit}
use Rattle.roff_tools.specs.declared.exit.Exit.TheVariants.{NotStarted}
use Rattle.roff_tools.specs.StartFault.{NamesBad, NamesFirstRefused, NamesWords}
use Rattle.roff_tools.specs.Told.{Shows, TellsFault, TellsNoMemory, TellsSome}
use Rattle.roff_tools.specs.declared.fault.StartFault.{StartFault}
use Rattle.roff_tools.specs.declared.fault.StartFault.TheVariants.{OutOfMemory}
use Rattle.cli_words.specs.PagesAsked.{pages_asked}
use Rattle.cli_words.specs.RegistersAsked.{registers_asked}

-- a command ran over the files of these names as it was asked to, with this given at its start, if one was asked for and what is
-- given isn't bad
abbrev pub PerformsIfAsked : {F S : Type 0} → (List ℕ → F → Type 0) → (S → Type 0) → (F → Tape → Type 0) → (S → Tape → Type 0)
    → List (List ℕ) → Option Start → Option Asked → Exit → Sunk → Sunk → Sunk → Sunk → Type 0
PerformsIfAsked opens stands file standard names (Some start) (Some asked) exit out out' err err' =
    Performs opens stands file standard names (job_of asked start) exit out out' err err'
PerformsIfAsked opens stands file standard names _ _ exit out out' err err' = ⊥

-- the command that the words name ran over the files that they name, and as its options ask
abbrev pub PerformsAsked : {F S : Type 0} → (List ℕ → F → Type 0) → (S → Type 0) → (F → Tape → Type 0) → (S → Tape → Type 0)
    → Option (Text × List Row) → Exit → Sunk → Sunk → Sunk → Sunk → Type 0
PerformsAsked opens stands file standard None exit out out' err err' = ⊥
PerformsAsked opens stands file standard (Some (name, rows)) exit out out' err err' =
    PerformsIfAsked opens stands file standard (files_asked rows) (start_asked rows) (asked_by name rows) exit out out' err err'

-- Why the command that the words name can't start: the list of pages is bad, or else a register, or else a file can't be opened, the
-- first that was refused; or memory ran out.
abbrev pub NamesStart : {F S : Type 0} → (List ℕ → F → Type 0) → (List ℕ → Type 0) → (S → Type 0) → Option (Text × List Row) → StartFault → Type 0
NamesStart opens refuses stands None fault = fault ≡ OutOfMemory
NamesStart opens refuses stands (Some (name, rows)) fault =
    NamesBad (pages_asked rows) (registers_asked rows) (NamesFirstRefused opens refuses stands (files_asked rows)) fault

-- What these words ask for was done. Where they are in order a command ran as they ask, or couldn't start, and why is told. Help and
-- the version go to the output alone, and a mistake ends so that nothing is on it, and is told.
pub record Obeys {F S : Type 0} (opens : List ℕ → F → Type 0) (refuses : List ℕ → Type 0) (stands : S → Type 0) (file : F → Tape → Type 0)
    (standard : S → Tape → Type 0) (words : List Text) (exit : Exit) (out out' err err' : Sunk) : Type 0 where
  pub performs : takes roff_app words ≡ true →
      ((exit ≡ NotStarted) × TellsFault (NamesStart opens refuses stands (subcommand_of roff_app words)) err err')
      ⊎ PerformsAsked opens stands file standard (subcommand_of roff_app words) exit out out' err err'
  pub asked : AskForHelp (fault_of roff_app words) → ((exit ≡ NotStarted) × TellsNoMemory err err') ⊎ (Shows exit out out' × (err' ≡ err))
  pub mistaken : AreMistaken (fault_of roff_app words) → (exit ≡ NotStarted) × TellsSome err err'
  pub unwritten : exit ≡ NotStarted → out' ≡ out

-- these are words that may have been said, in the form that the parser reads
pub record IsPrepared (says : List Text → Type 0) (prepared : List Text) : Type 0 where
  pub words : List Text
  pub said : says words
  pub is : prepared ≡ words_prepared false words

-- the words of the command line were obeyed
pub record ObeysWords {F S : Type 0} (says : List Text → Type 0) (opens : List ℕ → F → Type 0) (refuses : List ℕ → Type 0)
    (stands : S → Type 0) (file : F → Tape → Type 0) (standard : S → Tape → Type 0) (exit : Exit) (out out' err err' : Sunk) : Type 0 where
  pub prepared : List Text
  pub is : IsPrepared says prepared
  pub obeys : Obeys opens refuses stands file standard prepared exit out out' err err'

-- they can't be had: why is told, and nothing is on the output
pub record HasNoWords (exit : Exit) (out out' err err' : Sunk) : Type 0 where
  pub ends : exit ≡ NotStarted
  pub unwritten : out' ≡ out
  pub tells : TellsFault NamesWords err err'

-- they were obeyed, or they can't be had
abbrev pub Starts : {F S : Type 0} → (List Text → Type 0) → (List ℕ → F → Type 0) → (List ℕ → Type 0) → (S → Type 0) → (F → Tape → Type 0)
    → (S → Tape → Type 0) → Exit → Sunk → Sunk → Sunk → Sunk → Type 0
Starts says opens refuses stands file standard exit out out' err err' =
    ObeysWords says opens refuses stands file standard exit out out' err err' ⊎ HasNoWords exit out out' err err'

-- They were, with an output that is buffered, and then it was flushed: the program ends as the run did, unless the flush
-- failed. `given` is what was given to the buffer.
pub record IsFlushed {F S : Type 0} (says : List Text → Type 0) (opens : List ℕ → F → Type 0) (refuses : List ℕ → Type 0)
    (stands : S → Type 0) (file : F → Tape → Type 0) (standard : S → Tape → Type 0) (out err : Sunk) (exit : Exit) (out' err' : Sunk) : Type 0 where
  pub before : Exit
  pub given : Sunk
  pub starts : Starts says opens refuses stands file standard before out given err err'
  pub flushed : Result (Unit {0}) SinkFault
  pub finishes : Finishes given out' flushed
  pub ends : exit ≡ exit_flushed before (is_ok flushed)

-- without memory for a buffer that is told, and nothing is on the output
pub record HasNoBuffer (exit : Exit) (out out' err err' : Sunk) : Type 0 where
  pub ends : exit ≡ NotStarted
  pub unwritten : out' ≡ out
  pub tells : TellsNoMemory err err'

-- they were obeyed so, or there was no memory for the buffer of the output
abbrev pub RunsBuffered : {F S : Type 0} → (List Text → Type 0) → (List ℕ → F → Type 0) → (List ℕ → Type 0) → (S → Type 0) → (F → Tape → Type 0)
    → (S → Tape → Type 0) → Sunk → Sunk → Exit → Sunk → Sunk → Type 0
RunsBuffered says opens refuses stands file standard out err exit out' err' =
    IsFlushed says opens refuses stands file standard out err exit out' err' ⊎ HasNoBuffer exit out out' err err'

-- That was done with messages that are buffered, and then these were flushed: the program ends as it did, unless this flush
-- failed. `given` is what was given to their buffer.
pub record IsTold {F S : Type 0} (says : List Text → Type 0) (opens : List ℕ → F → Type 0) (refuses : List ℕ → Type 0)
    (stands : S → Type 0) (file : F → Tape → Type 0) (standard : S → Tape → Type 0) (out err : Sunk) (exit : Exit) (out' err' : Sunk) : Type 0 where
  pub before : Exit
  pub given : Sunk
  pub runs : RunsBuffered says opens refuses stands file standard out err before out' given
  pub flushed : Result (Unit {0}) SinkFault
  pub finishes : Finishes given err' flushed
  pub ends : exit ≡ exit_flushed before (is_ok flushed)

-- the same of the whole program, by its exit status; or there was no memory for the buffer of the messages
abbrev pub IsFinished : {F S : Type 0} → (List Text → Type 0) → (List ℕ → F → Type 0) → (List ℕ → Type 0) → (S → Type 0) → (F → Tape → Type 0)
    → (S → Tape → Type 0) → Sunk → Sunk → ℕ → Sunk → Sunk → Type 0
IsFinished says opens refuses stands file standard out err number out' err' =
    (exit : Exit) × (IsTold says opens refuses stands file standard out err exit out' err' ⊎ HasNoBuffer exit out out' err err')
    × (number ≡ exit_number exit)
