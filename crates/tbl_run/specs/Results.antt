-- What a whole run of `tbl` gives: the state in which it ends, and what it wrote, reported and answered until then.
use Rattle.std.specs.Prelude.{◌≡◌, ℕ, zero, suc, ◌+◌, List, length, Option, Some, None, IsSome}
use Rattle.std.specs.Io.KnownBytes.{Appends}
use Rattle.roff_num.specs.Faults.{Rises}
use Rattle.page_bytes.specs.Devices.{Seen}
use Rattle.page_bytes.specs.Sinks.{AppendsFront}
use Rattle.run_model.specs.declared.status.Status.{Status}
use Rattle.run_model.specs.declared.status.Status.TheVariants.{Device}
use Rattle.input_source.specs.Tape.{Tape}
use Rattle.tbl_format.specs.declared.limits.TblLimits.{TblLimits}
use Rattle.tbl_core.specs.Yields.{at_start, yields}
use Rattle.tbl_run.specs.Outcome.{Comes, TblOutcome}
use Rattle.tbl_run.specs.Run.{State, initial, step}

-- so many steps, or fewer where the run has ended before
abbrev pub turns : TblLimits → ℕ → ℕ → State → State
turns l line_length zero s = s
turns l line_length (suc n) s = elim s.written.ended [ None ↦ turns l line_length n (step l line_length s) | Some status ↦ s ]

-- The state in which a run ends: each item that tables give takes a step, and how these end takes one more.
abbrev pub tbl_last_state : TblLimits → ℕ → Tape → State
tbl_last_state l line_length tape = turns l line_length (length (yields l line_length at_start tape).items + 1) (initial tape)

-- what a run writes
abbrev pub tbl_output_of : TblLimits → ℕ → Tape → List ℕ
tbl_output_of l line_length tape = (tbl_last_state l line_length tape).written.output

-- what it reports
abbrev pub tbl_messages_of : TblLimits → ℕ → Tape → List ℕ
tbl_messages_of l line_length tape = (tbl_last_state l line_length tape).written.messages

-- the status with which it ends
abbrev pub tbl_status_of : TblLimits → ℕ → Tape → Option Status
tbl_status_of l line_length tape = (tbl_last_state l line_length tape).written.ended

-- the run over this tape ends in this state: it comes to another one, and the step from there has ended
pub record EndsIn (l : TblLimits) (line_length : ℕ) (t : Tape) (last : State) : Type 0 where
  pub before : State
  pub comes : Comes l line_length t before
  pub is : step l line_length before ≡ last
  pub ended : IsSome last.written.ended

-- All of the definition's result: its text was written, its messages were reported, the status is its, and what is left is what it
-- didn't take. A fault is the source's.
pub record GivesAll (l : TblLimits) (line_length : ℕ) (t left : Tape) (status : Status) (before now : Seen) : Type 0 where
  pub text : Appends before.out.contents now.out.contents (tbl_output_of l line_length t)
  pub messages : Appends before.err.contents now.err.contents (tbl_messages_of l line_length t)
  pub ended : tbl_status_of l line_length t ≡ Some status
  pub rest : left ≡ (tbl_last_state l line_length t).stage.tape
  pub fault : status ≡ Device → Rises before.failures now.failures

-- A beginning of the definition's text, whatever failed. If the output had no fault, a beginning of its messages too; and if
-- neither sink had one, all of its result.
pub record Gives (l : TblLimits) (line_length : ℕ) (t left : Tape) (status : Status) (before now : Seen) : Type 0 where
  pub text : AppendsFront before.out.contents now.out.contents (tbl_output_of l line_length t)
  pub messages : (¬ Rises before.out.failures now.out.failures)
      → AppendsFront before.err.contents now.err.contents (tbl_messages_of l line_length t)
  pub all : (¬ Rises before.out.failures now.out.failures) → (¬ Rises before.err.failures now.err.failures)
      → GivesAll l line_length t left status before now

-- each outcome of a run of the code gives that
abbrev pub EachOutcomeGives : Type 0
EachOutcomeGives =
    (l : TblLimits) (line_length : ℕ) (t left : Tape) (status : Status) (before now : Seen)
    → TblOutcome l line_length t left status before now → Gives l line_length t left status before now
