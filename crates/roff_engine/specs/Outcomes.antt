-- What a run of the code gives of what the definition's whole run does, however it came out.
use Rattle.std.specs.Prelude.{◌≡◌, Some}
use Rattle.std.specs.Io.KnownBytes.{Appends}
use Rattle.roff_num.specs.declared.limits.Limits.{Limits}
use Rattle.run_items.specs.Outcome.{IsRest, Outcome, Seen}
use Rattle.run_model.specs.Results.{last_state, output_of, messages_of, status_of}
use Rattle.page_bytes.specs.Sinks.{Sunk, AppendsFront}
use Rattle.run_model.specs.declared.status.Status.{Status}
use Rattle.run_model.specs.declared.status.Status.TheVariants.{Device}
use Rattle.run_model.specs.declared.start.Start.{Start}
use Rattle.input_source.specs.Tape.{Tape}
use Rattle.roff_num.specs.Faults.{Rises}

-- a sink had no fault: its count didn't rise
abbrev pub HadNoFault : Sunk → Sunk → Type 0
HadNoFault before now = ¬ Rises before.failures now.failures

-- All of the definition's result: its text was written, its messages were reported, the status is its, and
-- what is left is its rest, where it didn't come to its source's end perhaps without the item in front, which was looked
-- at. A fault is the source's.
pub record GivesAll (l : Limits) (start : Start) (t left : Tape) (status : Status) (before now : Seen) : Type 0 where
  pub text : Appends before.out.contents now.out.contents (output_of l start t)
  pub messages : Appends before.err.contents now.err.contents (messages_of l start t)
  pub ended : status_of l start t ≡ Some status
  pub rest : IsRest status left (last_state l start t)
  pub fault : status ≡ Device → Rises before.failures now.failures

-- A beginning of the definition's text, whatever failed. If the output had no fault, a beginning of its
-- messages too; and if neither sink had one, all of its result.
pub record Gives (l : Limits) (start : Start) (t left : Tape) (status : Status) (before now : Seen) : Type 0 where
  pub text : AppendsFront before.out.contents now.out.contents (output_of l start t)
  pub messages : HadNoFault before.out now.out →
      AppendsFront before.err.contents now.err.contents (messages_of l start t)
  pub all : HadNoFault before.out now.out → HadNoFault before.err now.err → GivesAll l start t left status before now

-- each outcome of a run of the code gives that
abbrev pub EachOutcomeGives : Type 0
EachOutcomeGives =
    (l : Limits) (start : Start) (t left : Tape) (status : Status) (before now : Seen) →
    Outcome l start t left status before now → Gives l start t left status before now
