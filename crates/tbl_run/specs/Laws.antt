-- How runs end, and what the limit on messages does, whatever a source gives.
use Rattle.std.specs.Prelude.{◌≡◌, ℕ, ◌≤◌, length}
use Rattle.roff_num.specs.Lists.{IsBeginning}
use Rattle.roff_num.specs.declared.limit.Limit.TheVariants.{Messages}
use Rattle.run_model.specs.declared.status.Status.TheVariants.{Limit as Limited}
use Rattle.input_source.specs.Tape.{Tape}
use Rattle.tbl_format.specs.TblLimits.{tbl_limits_with}
use Rattle.tbl_format.specs.declared.limits.TblLimits.{TblLimits}
use Rattle.tbl_options.specs.declared.message.Message.TheVariants.{LimitReached}
use Rattle.tbl_run.specs.Outcome.{Comes}
use Rattle.tbl_run.specs.Results.{EndsIn, tbl_last_state}
use Rattle.tbl_run.specs.Run.{State, Written, ends_telling, initial, step, steps}

-- every run ends, in its last state
abbrev pub EveryRunEnds : Type 0
EveryRunEnds = (l : TblLimits) (line_length : ℕ) (t : Tape) → EndsIn l line_length t (tbl_last_state l line_length t)

-- and in no other one
abbrev pub NoOtherStateIsLast : Type 0
NoOtherStateIsLast =
    (l : TblLimits) (line_length : ℕ) (t : Tape) (s : State) → EndsIn l line_length t s → s ≡ tbl_last_state l line_length t

-- what was written and reported is a beginning of what is later
pub record GoesOnTo (first later : Written) : Type 0 where
  pub text : IsBeginning first.output later.output
  pub messages : IsBeginning first.messages later.messages

-- nothing that a step wrote or reported is taken back
abbrev pub EachStepIsABeginning : Type 0
EachStepIsABeginning =
    (l : TblLimits) (line_length : ℕ) (t : Tape) (s : State) → Comes l line_length t s
    → GoesOnTo (step l line_length s).written (tbl_last_state l line_length t).written

-- the messages of a run that hasn't ended are within the limit
abbrev pub MessagesAreWithin : Type 0
MessagesAreWithin =
    (l : TblLimits) (line_length : ℕ) (t : Tape) (s : State) → Comes l line_length t s → length s.written.messages ≤ l.messages

-- a step within the limit, beside the same within a larger one: they are the same, or the first one ends the run by the limit, and
-- what was written and told before it is a beginning of what the other one's state has
pub data IsOnlyStopped (l : TblLimits) (before small large : State) : Type 0 where
  SameStep : (is : small ≡ large) → IsOnlyStopped l before small large
  LimitMet : (line : ℕ) (is : small.written ≡ ends_telling line (LimitReached Messages l.messages) (Limited Messages) before.written)
      (stage : small.stage ≡ large.stage) (text : IsBeginning before.written.output large.written.output)
      (messages : IsBeginning before.written.messages large.written.messages)
      → IsOnlyStopped l before small large

-- a run that comes to a state does so within larger limits in as many steps, and its next step is only stopped
pub record GoesFurther (small large : TblLimits) (line_length : ℕ) (t : Tape) (count : ℕ) (s : State) : Type 0 where
  pub comes : steps large line_length count (initial t) ≡ s
  pub next : IsOnlyStopped small s (step small line_length s) (step large line_length s)

-- a smaller limit on messages only stops
abbrev pub MessagesOnlyStop : Type 0
MessagesOnlyStop =
    (l : TblLimits) (more line_length : ℕ) (t : Tape) (s : State) → l.messages ≤ more → (come : Comes l line_length t s)
    → GoesFurther l (tbl_limits_with l Messages more) line_length t come.count s
