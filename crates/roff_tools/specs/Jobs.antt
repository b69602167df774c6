-- What a run of a job is.
use Rattle.std.specs.Prelude.{ℕ, List, Option, Some, None, Result, Ok}
use Rattle.clap.specs.Words.{Row, Text}
use Rattle.roff_num.specs.declared.num.Num.{Num}
use Rattle.input_source.specs.Tape.{Tape}
use Rattle.run_model.specs.declared.status.Status.{Status}
use Rattle.run_model.specs.declared.start.Start.{Start}
use Rattle.run_items.specs.Outcome.{Runs, Seen}
use Rattle.tbl_run.specs.Outcome.{PutsTables}
use Rattle.cli_words.specs.CommandLine.{first_page_asked}
use Rattle.cli_words.specs.PagesAsked.{pages_asked, told_pages}
use Rattle.cli_words.specs.RegistersAsked.{registers_asked, told}
use Rattle.cli_words.specs.declared.request.Asked.{Asked}
use Rattle.cli_words.specs.declared.request.Asked.TheVariants as asked
use Rattle.cli_words.specs.declared.request.Request.{Request}
use Rattle.roff_tools.specs.Both.{RunsBoth}
use Rattle.roff_tools.specs.declared.job.Job.{Job}
use Rattle.roff_tools.specs.declared.job.Job.TheVariants.{Nroff, Tbl, Both}

-- the job was run over a source that might give the tapes `old` and may now give the tapes `new`, and ended so
abbrev pub RunsJob : Job → Status → (Tape → Type 0) → (Tape → Type 0) → Seen → Seen → Type 0
RunsJob (Nroff limits start) status old new before now = Runs limits start status old new before now
RunsJob (Tbl limits line_length) status old new before now = PutsTables limits line_length status old new before now
RunsJob (Both limits start table_limits line_length) status old new before now =
    RunsBoth limits start table_limits line_length status old new before now

-- the job that is asked for, with what the run is given at its start
abbrev pub job_of : Asked → Start → Job
job_of (asked.Nroff limits) start = Nroff limits start
job_of (asked.Tbl limits line_length) start = Tbl limits line_length
job_of (asked.Both limits table_limits line_length) start = Both limits start table_limits line_length

-- what is given to a run at its start, if neither the pages nor the registers that are asked for are bad
abbrev pub start_given : Option Num → Result (List (Num × Num)) Text → Result (List (ℕ × Num)) Text → Option Start
start_given first (Ok pages) (Ok registers) =
    Some (record { first_page = first; pages = record { items = pages }; registers = record { items = registers } })
start_given first (_) (_) = None

-- what the options of a command ask for
abbrev pub start_asked : List Row → Option Start
start_asked rows = start_given (first_page_asked rows) (pages_asked rows) (registers_asked rows)

-- and what is read of them
abbrev pub start_read : Request → Option Start
start_read request = start_given request.first_page (told_pages request.pages) (told request.registers)
