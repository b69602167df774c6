-- Laws over whole runs: what limits and failing sources leave as it is.
use Rattle.std.specs.Prelude.{◌≡◌, ◌≢◌, ℕ, ◌+◌, ◌≤◌, List, [], ◌∷◌, ◌++◌, Some}
use Rattle.roff_num.specs.Lists.{IsBeginning}
use Rattle.roff_num.specs.declared.limit.Limit.{Limit}
use Rattle.run_model.specs.declared.status.Status.TheVariants.{Device, Limit as Limited}
use Rattle.roff_num.specs.declared.limits.Limits.{Limits}
use Rattle.law_runs.specs.Limits.{AreWithin}
use Rattle.run_model.specs.PageEvents.{PageHistory}
use Rattle.run_model.specs.Run.{State, initial, told_after, output, reported}
use Rattle.run_model.specs.TitleTexts.{title_length}
use Rattle.run_model.specs.declared.event.PageEvent.TheVariants.{Title}
use Rattle.run_model.specs.declared.start.Start.{Start}
use Rattle.input_source.specs.Tape.{Tape, Item, Ending, Failed}
use Rattle.run_model.specs.Within.{IsWithin}

-- one run is only cut beside another: what it wrote is a beginning of what the other did, and so are its
-- messages, without the one with which it ended
pub record OnlyCuts (cut whole : State) : Type 0 where
  pub text : IsBeginning (output cut) (output whole)
  pub messages : IsBeginning cut.messages whole.messages

-- limits only cut
abbrev pub LimitsOnlyCut : Type 0
LimitsOnlyCut =
    (small large : Limits) → AreWithin small large → (start : Start) (tape : Tape) (n : ℕ) →
    OnlyCuts (told_after small n (initial small start tape)) (told_after large n (initial large start tape))

-- larger limits change nothing until a limit stops the run
abbrev pub SameUntilALimit : Type 0
SameUntilALimit =
    (small large : Limits) → AreWithin small large → (start : Start) (tape : Tape) (n : ℕ) →
    ((limit : Limit) → (told_after small n (initial small start tape)).ended ≢ Some (Limited limit)) →
    told_after large n (initial large start tape) ≡ told_after small n (initial small start tape)

-- a source that fails behind these items
abbrev pub failing_behind : List Item → Tape
failing_behind items = record { items = items; ending = Failed }

-- a source that has more behind these items, and ends in any way
abbrev pub going_on_behind : List Item → List Item → Ending → Tape
going_on_behind items more ending = record { items = items ++ more; ending = ending }

-- a source that fails only cuts
abbrev pub FailingOnlyCuts : Type 0
FailingOnlyCuts =
    (l : Limits) (start : Start) (items more : List Item) (ending : Ending) (n : ℕ) →
    OnlyCuts (told_after l n (initial l start (failing_behind items))) (told_after l n (initial l start (going_on_behind items more ending)))

-- the same state over another tape
abbrev pub over : Tape → State → State
over tape s = record s { tape = tape }

-- a source that goes on changes nothing but what is left to take, until the run meets the fault
abbrev pub SameUntilTheFault : Type 0
SameUntilTheFault =
    (l : Limits) (start : Start) (items more : List Item) (ending : Ending) (n : ℕ) →
    let cut : State = told_after l n (initial l start (failing_behind items)) in
    let whole : State = told_after l n (initial l start (going_on_behind items more ending)) in
    cut.ended ≢ Some Device → over cut.tape whole ≡ cut

-- no run passes a limit (that on messages: `MessagesAreWithin`)
abbrev pub NoLimitIsPassed : Type 0
NoLimitIsPassed = (l : Limits) (start : Start) (tape : Tape) (n : ℕ) → IsWithin l (told_after l n (initial l start tape))

-- each title that was placed has so many bytes at the most, all its parts together
abbrev pub TitlesAreWithin : ℕ → PageHistory → Type 0
TitlesAreWithin most [] = Unit {0}
TitlesAreWithin most (Title t ∷ h) = (title_length t.text ≤ most) × TitlesAreWithin most h
TitlesAreWithin most (e ∷ h) = TitlesAreWithin most h

-- and so have the one that is read and the one that is kept
pub record HasTitlesWithin (most : ℕ) (s : State) : Type 0 where
  pub read : title_length s.registers.title ≤ most
  pub kept : title_length s.registers.kept_title ≤ most
  pub placed : TitlesAreWithin most s.history

-- no title of a run has more bytes than the limit on a line says
abbrev pub NoTitleIsLonger : Type 0
NoTitleIsLonger = (l : Limits) (start : Start) (tape : Tape) (n : ℕ) → HasTitlesWithin l.line (told_after l n (initial l start tape))

-- a run has gone on from one state to another: nothing that it wrote or reported was taken back
pub record GoesOnTo (s t : State) : Type 0 where
  pub text : IsBeginning (output s) (output t)
  pub messages : IsBeginning (reported s) (reported t)

-- steps only append
abbrev pub StepsOnlyAppend : Type 0
StepsOnlyAppend =
    (l : Limits) (start : Start) (tape : Tape) (n more : ℕ) → GoesOnTo (told_after l n (initial l start tape)) (told_after l (n + more) (initial l start tape))
