-- The words of the clauses in `src/`, for one import line in each source file.
pub use Rattle.std.specs.Process.{exit_status}
pub use Rattle.clap.specs.Words.{fault_of, kind_of, subcommand_of, takes}
pub use Rattle.roff_num.specs.Lists.{IsBeginning}
pub use Rattle.run_items.specs.Outcome.{Runs}
pub use Rattle.page_bytes.specs.Devices.{seen}
pub use Rattle.page_bytes.specs.Sinks.{Fails, Puts, Writes}
pub use Rattle.tbl_run.specs.Outcome.{PutsTables}
pub use Rattle.tbl_run.specs.Results.{tbl_messages_of, tbl_output_of}
pub use Rattle.run_model.specs.Results.{messages_of, output_of}
pub use Rattle.cli_words.specs.CommandLine.{AreMistaken, AskForHelp, roff_app}
pub use Rattle.cli_words.specs.PagesAsked.{told_pages}
pub use Rattle.cli_words.specs.RegistersAsked.{told}
pub use Rattle.roff_tools.specs.Both.{RunsBoth}
pub use Rattle.roff_tools.specs.Jobs.{RunsJob, job_of, start_read}
pub use Rattle.roff_tools.specs.Exit.{exit_after, exit_flushed, exit_number}
pub use Rattle.roff_tools.specs.InMemory.{IsWholeResult, IsWholeTblResult, RanInMemory}
pub use Rattle.cli_devices.specs.Inputs.Part.{AreNamed, IsNamed}
pub use Rattle.cli_devices.specs.Buffered.{given_to}
pub use Rattle.cli_devices.specs.Memory.{tape_of_bytes}
pub use Rattle.roff_tools.specs.Program.{IsFinished, IsFlushed, IsPrepared, IsTold, NamesStart, PerformsAsked, PerformsIfAsked, RunsBuffered, Starts}
pub use Rattle.roff_tools.specs.RunOver.{Performs}
pub use Rattle.roff_tools.specs.StartFault.{NamesBad, NamesFile, NamesFirstRefused, NamesPages, NamesRegister, NamesWords, fault_line}
pub use Rattle.roff_tools.specs.Told.{Shows, Tells, TellsFault, TellsNoMemory, TellsSome}
