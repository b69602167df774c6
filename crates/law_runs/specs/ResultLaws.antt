-- Laws over what whole runs give.
use Rattle.std.specs.Prelude.{◌≡◌, ◌≢◌, List, Some, IsSome}
use Rattle.roff_num.specs.Lists.{IsBeginning}
use Rattle.roff_num.specs.declared.limit.Limit.{Limit}
use Rattle.run_model.specs.declared.status.Status.TheVariants.{Device, Limit as Limited}
use Rattle.roff_num.specs.declared.limits.Limits.{Limits}
use Rattle.law_runs.specs.Laws.{failing_behind, going_on_behind, GoesOnTo}
use Rattle.law_runs.specs.Limits.{AreWithin}
use Rattle.run_model.specs.Results.{last_state, output_of, messages_of, messages_on_the_way, status_of}
use Rattle.run_model.specs.Run.{State, ToldLeads, initial}
use Rattle.run_model.specs.declared.start.Start.{Start}
use Rattle.input_source.specs.Tape.{Tape, Item, Ending}

-- every run ends
abbrev pub EveryRunEnds : Type 0
EveryRunEnds = (l : Limits) (start : Start) (tape : Tape) → IsSome (status_of l start tape)

-- its steps lead to its last state
abbrev pub StepsLeadToTheLastState : Type 0
StepsLeadToTheLastState = (l : Limits) (start : Start) (tape : Tape) → ToldLeads l (initial l start tape) (last_state l start tape)

-- and to no other one that has ended
abbrev pub NoOtherStateIsLast : Type 0
NoOtherStateIsLast =
    (l : Limits) (start : Start) (tape : Tape) (s : State) → ToldLeads l (initial l start tape) s → IsSome s.ended → s ≡ last_state l start tape

-- one run gives a beginning of what another does: of its output, and, but for the message with which the one
-- ends, of its messages
pub record GivesABeginning (start : Start) (l : Limits) (tape : Tape) (large : Limits) (longer : Tape) : Type 0 where
  pub text : IsBeginning (output_of l start tape) (output_of large start longer)
  pub messages : IsBeginning (messages_on_the_way l start tape) (messages_of large start longer)

-- two runs give the same
pub record GiveTheSame (start : Start) (l : Limits) (tape : Tape) (large : Limits) (longer : Tape) : Type 0 where
  pub text : output_of l start tape ≡ output_of large start longer
  pub messages : messages_of l start tape ≡ messages_of large start longer
  pub status : status_of l start tape ≡ status_of large start longer

-- a run gives a beginning of what it gives with larger limits
abbrev pub LimitsCutResults : Type 0
LimitsCutResults = (small large : Limits) → AreWithin small large → (start : Start) (tape : Tape) → GivesABeginning start small tape large tape

-- and just the same if no limit stops it
abbrev pub SameResultWithoutALimit : Type 0
SameResultWithoutALimit =
    (small large : Limits) → AreWithin small large → (start : Start) (tape : Tape) →
    ((limit : Limit) → status_of small start tape ≢ Some (Limited limit)) → GiveTheSame start small tape large tape

-- over a source that fails behind some items a run gives a beginning of what it gives over one that goes on there
abbrev pub FailingCutsResults : Type 0
FailingCutsResults =
    (l : Limits) (start : Start) (items more : List Item) (ending : Ending) →
    GivesABeginning start l (failing_behind items) l (going_on_behind items more ending)

-- and just the same if it ends before the fault
abbrev pub SameResultBeforeTheFault : Type 0
SameResultBeforeTheFault =
    (l : Limits) (start : Start) (items more : List Item) (ending : Ending) →
    status_of l start (failing_behind items) ≢ Some Device →
    GiveTheSame start l (failing_behind items) l (going_on_behind items more ending)

-- what was written and reported in a state to which steps lead is a beginning of what the whole run gives
abbrev pub EachStateIsABeginning : Type 0
EachStateIsABeginning = (l : Limits) (start : Start) (tape : Tape) (s : State) → ToldLeads l (initial l start tape) s → GoesOnTo s (last_state l start tape)
