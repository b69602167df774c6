-- Two runs of the code beside each other: what the one tells about the other.
use Rattle.std.specs.Prelude.{◌≡◌, ◌≢◌, ℕ, List}
use Rattle.std.specs.Io.KnownBytes.{Appends}
use Rattle.roff_num.specs.Lists.{IsBeginning}
use Rattle.roff_num.specs.declared.limit.Limit.{Limit}
use Rattle.roff_num.specs.declared.limits.Limits.{Limits}
use Rattle.run_items.specs.Outcome.{Outcome, Seen}
use Rattle.law_runs.specs.Laws.{failing_behind, going_on_behind}
use Rattle.law_runs.specs.Limits.{AreWithin}
use Rattle.roff_engine.specs.Outcomes.{HadNoFault}
use Rattle.run_model.specs.declared.status.Status.{Status}
use Rattle.run_model.specs.declared.status.Status.TheVariants.{Device, Limit as Limited}
use Rattle.run_model.specs.declared.start.Start.{Start}
use Rattle.input_source.specs.Tape.{Tape, Item, Ending}

-- a run of the code with limits over a tape: what it left, its status, and what its devices had seen before
-- it and have seen behind it
pub record CodeRun (l : Limits) (start : Start) (t : Tape) : Type 0 where
  pub left : Tape
  pub status : Status
  pub before : Seen
  pub now : Seen
  pub outcome : Outcome l start t left status before now

-- no sink had a fault in it
pub record SinksHadNoFault {l : Limits} {start : Start} {t : Tape} (run : CodeRun l start t) : Type 0 where
  pub out : HadNoFault run.before.out run.now.out
  pub err : HadNoFault run.before.err run.now.err

-- it wrote this
abbrev pub Wrote : {l : Limits} {start : Start} {t : Tape} → CodeRun l start t → List ℕ → Type 0
Wrote run text = Appends run.before.out.contents run.now.out.contents text

-- it reported this
abbrev pub Reported : {l : Limits} {start : Start} {t : Tape} → CodeRun l start t → List ℕ → Type 0
Reported run messages = Appends run.before.err.contents run.now.err.contents messages

-- what one run wrote is a beginning of what another did
pub record WroteABeginning {l k : Limits} {start : Start} {t u : Tape} (one : CodeRun l start t) (other : CodeRun k start u) : Type 0 where
  pub text : List ℕ
  pub longer : List ℕ
  pub wrote : Wrote one text
  pub other_wrote : Wrote other longer
  pub beginning : IsBeginning text longer

-- two runs wrote and reported the same, and ended with the same status
pub record DidTheSame {l k : Limits} {start : Start} {t u : Tape} (one : CodeRun l start t) (other : CodeRun k start u) : Type 0 where
  pub text : List ℕ
  pub messages : List ℕ
  pub wrote : Wrote one text
  pub other_wrote : Wrote other text
  pub reported : Reported one messages
  pub other_reported : Reported other messages
  pub status : one.status ≡ other.status

-- a run writes a beginning of what a run with larger limits does, whatever fails in it
abbrev pub SmallerLimitsWriteABeginning : Type 0
SmallerLimitsWriteABeginning =
    (small large : Limits) → AreWithin small large → (start : Start) (t : Tape) (one : CodeRun small start t) (other : CodeRun large start t) →
    SinksHadNoFault other → WroteABeginning one other

-- and does the same if no limit stops it
abbrev pub SameUnlessALimitStops : Type 0
SameUnlessALimitStops =
    (small large : Limits) → AreWithin small large → (start : Start) (t : Tape) (one : CodeRun small start t) (other : CodeRun large start t) →
    SinksHadNoFault one → SinksHadNoFault other → ((limit : Limit) → one.status ≢ Limited limit) → DidTheSame one other

-- over a source that fails behind some items a run writes a beginning of what it does over one that goes on there
abbrev pub FailingSourcesWriteABeginning : Type 0
FailingSourcesWriteABeginning =
    (l : Limits) (start : Start) (items more : List Item) (ending : Ending)
    (one : CodeRun l start (failing_behind items)) (other : CodeRun l start (going_on_behind items more ending)) →
    SinksHadNoFault other → WroteABeginning one other

-- and does the same if it ends before the fault
abbrev pub SameUnlessTheSourceFails : Type 0
SameUnlessTheSourceFails =
    (l : Limits) (start : Start) (items more : List Item) (ending : Ending)
    (one : CodeRun l start (failing_behind items)) (other : CodeRun l start (going_on_behind items more ending)) →
    SinksHadNoFault one → SinksHadNoFault other → one.status ≢ Device → DidTheSame one other

-- two runs with the same limits over the same tape do the same
abbrev pub RunsCanBeRepeated : Type 0
RunsCanBeRepeated =
    (l : Limits) (start : Start) (t : Tape) (one other : CodeRun l start t) → SinksHadNoFault one → SinksHadNoFault other → DidTheSame one other
