-- How a step may end a run. Where it does, it tells nothing but the message that says why; and a step that a limit refuses does nothing.
use Rattle.std.proofs.Common.{◌≡◌, inl, inr, List, Option, [], ◌∷◌, Some, None, refl, ap, sym, subst, ◌∙◌}
use Rattle.roff_num.specs.declared.limit.Limit.{Limit}
use Rattle.roff_num.specs.declared.limit.Limit.TheVariants.{Messages}
use Rattle.roff_num.specs.declared.limits.Limits.{Limits}
use Rattle.input_model.specs.Input.{item_taken}
use Rattle.run_model.specs.Run.{State, aborted, ending_as, ending_with, phase_ended, step, step_with, stopped_by, step_behind}
use Rattle.run_model.specs.Requests.{called_by}
use Rattle.run_model.specs.Springs.{next}
use Rattle.run_model.specs.declared.message.Message.TheVariants.{ReadFailed}
use Rattle.run_model.specs.declared.phase.Phase.{Phase}
use Rattle.run_model.specs.declared.phase.Phase.TheVariants.{Reading, LastMacro, Closing}
use Rattle.run_model.specs.PageEvents.{PageEvent}
use Rattle.run_model.specs.declared.status.Status.{Status}
use Rattle.run_model.specs.declared.status.Status.TheVariants.{Device, Done, Limit as Limited}
use Rattle.run_model.proofs.Readings.{ReadsOn, LimitStops, AheadTaken, ByteTaken, NoteTaken, HalfEnds, InputLeft, LineEnds, MessageTold, PhaseEnds, RunAborts, SourceFails, SourceStops, SprungRead, ReadsOn-with_sprung, TextChanged, ReadsOn-text}
use Rattle.run_model.proofs.Behind.{Behind-ahead_taken, Behind-sprung_read}
use Rattle.law_runs.specs.Refusals.{DoesNothing, RefusedStepsDoNothing}
use Rattle.law_runs.proofs.Ended.{step-going}
use Rattle.law_runs.proofs.InputLeaving.{IsLeft-left_in}
use Rattle.law_runs.proofs.PerformedOrStopped.{PerformedOrStopped, Performed, Sprang, EndsOver, StoppedAt, first_of, left_behind, performed_or_stopped}
use Rattle.law_runs.proofs.Told.{told_step-holds}
use Rattle.page_model.specs.DueTexts.{TextDue}
use Rattle.law_runs.proofs.TextsChanged.{text-holds}

-- The run goes on behind a step; or a limit refused the step, one of the run or one of the source's own; or the source failed; or a
-- message ended the run; or it is done.
pub data StepEnds (l : Limits) (s : State) : State → Type 0 where
  GoesOn : (t : State) → t.ended ≡ None → StepEnds l s t
  Refused : (limit : Limit) → StepEnds l s (stopped_by l limit s)
  SourceRefused : (limit : Limit) → StepEnds l s (ending_as (Limited limit) s)
  SourceFailed : StepEnds l s (ending_with Device ReadFailed s)
  Aborted : StepEnds l s (aborted s)
  IsDone : (t : State) → t.ended ≡ Some Done → t.messages ≡ s.messages → StepEnds l s t

-- a phase ends, and with the last one the run
StepEnds-phase_ended : (l : Limits) (phase : Phase) (s : State) → s.ended ≡ None → StepEnds l s (phase_ended phase s)
StepEnds-phase_ended l Reading s going = GoesOn (phase_ended Reading s) going
StepEnds-phase_ended l LastMacro s going = GoesOn (phase_ended LastMacro s) going
StepEnds-phase_ended l Closing s going = IsDone (phase_ended Closing s) refl refl

-- what was read, or how the run ended
StepEnds-read : (l : Limits) (s t : State) → ReadsOn l s t → s.ended ≡ None → StepEnds l s t
StepEnds-read l s t (LimitStops limit) going = Refused limit
StepEnds-read l s t (AheadTaken item behind ahead charge is_made) going =
    GoesOn t ((Behind-ahead_taken item (record s { input = item_taken item behind s.input })).ended ∙ going)
StepEnds-read l s t (ByteTaken b none is_open gives charge is_made) going = GoesOn t going
StepEnds-read l s t (NoteTaken message is_open gives) going = GoesOn t going
StepEnds-read l s t (HalfEnds first others half is_made) going = GoesOn t going
StepEnds-read l s t (PhaseEnds none half ends unfinished is_made) going = StepEnds-phase_ended l s.phase s going
StepEnds-read l s t (LineEnds unfinished none ends is_made) going = GoesOn t going
StepEnds-read l s t (MessageTold told is_made) going = GoesOn t going
StepEnds-read l s t (RunAborts told) going = Aborted
StepEnds-read l s t (InputLeft leaves is_made) going = GoesOn t ((IsLeft-left_in s.phase s).ended ∙ going)
StepEnds-read l s t (SprungRead name sprung is_made) going = GoesOn t ((Behind-sprung_read (called_by name s.input.names) s).ended ∙ going)
StepEnds-read l s t (TextChanged due text is_made) going =
    GoesOn t (text-holds (λ (u : State). u.ended ≡ None) due s (λ names texts. going))
StepEnds-read l s t (SourceFails is_open fails) going = SourceFailed
StepEnds-read l s t (SourceStops limit is_open stops) going = SourceRefused limit

-- an event was performed, or refused
StepEnds-event : (l : Limits) (e : PageEvent) (es : List PageEvent) (s t : State) → PerformedOrStopped l e es s t → s.ended ≡ None → StepEnds l s t
StepEnds-event l e es s t (Performed allowed on none) going = GoesOn t going
StepEnds-event l e es s t (Sprang name allowed on some) going = GoesOn t going
StepEnds-event l e es s t (EndsOver allowed over) going = IsDone t refl refl
StepEnds-event l e es s t (StoppedAt limit) going = Refused limit

-- a step of a run that hasn't ended
StepEnds-step_with : (l : Limits) (es : List PageEvent) (s : State) → s.ended ≡ None → StepEnds l s (step_with l es s)
StepEnds-step_with l (e ∷ es) s going =
    let own : Option PageEvent = next s.history e in
    StepEnds-event l (first_of own e) (left_behind own e es s) s _ (performed_or_stopped l own e es s) going
StepEnds-step_with l [] s going = StepEnds-read l s _ (ReadsOn-with_sprung l s.follows.sprung s refl) going

-- the text of a diversion changes first, if one does
StepEnds-step_behind : (l : Limits) (due : Option TextDue) (s : State) → s.follows.text ≡ due → s.ended ≡ None
    → StepEnds l s (step_behind l due s)
StepEnds-step_behind l None s none going = StepEnds-step_with l s.to_do s going
StepEnds-step_behind l (Some due) s some going = StepEnds-read l s _ (ReadsOn-text l due s some) going

StepEnds-step : (l : Limits) (s : State) → s.ended ≡ None → StepEnds l s (step l s)
StepEnds-step l s going =
    subst (λ (t : State). StepEnds l s t) (sym (step-going l s going)) (StepEnds-step_behind l s.follows.text s refl going)

-- a step that a limit refuses does nothing
refused-ends : (l : Limits) (limit : Limit) (s t : State) → StepEnds l s t → t.ended ≡ Some (Limited limit) → DoesNothing l limit s t
refused-ends l limit s t (GoesOn u going) ended = let wrong : None ≡ Some (Limited limit) = sym going ∙ ended in absurd (cc)
refused-ends l limit s t (Refused other) ended =
    let same : other ≡ limit = cc in record { tells = refl; stays = inl (ap (λ (k : Limit). stopped_by l k s) same) }
refused-ends l limit s t (SourceRefused other) ended =
    let same : other ≡ limit = cc in record { tells = refl; stays = inr (ap (λ (k : Limit). ending_as (Limited k) s) same) }
refused-ends l limit s t SourceFailed ended = absurd (cc)
refused-ends l limit s t Aborted ended = absurd (cc)
refused-ends l limit s t (IsDone u done tells) ended = let wrong : Some Done ≡ Some (Limited limit) = sym done ∙ ended in absurd (cc)

pub refused_steps_do_nothing : RefusedStepsDoNothing
refused_steps_do_nothing l limit s going =
    told_step-holds (λ (t : State). t.ended ≡ Some (Limited limit) → DoesNothing l limit s t) l s
    (refused-ends l limit s (step l s) (StepEnds-step l s going)) (λ again. refused-ends l limit s (stopped_by l Messages s) (Refused Messages))

-- one with which a run ends that isn't done leaves what was written and told
pub record LeavesAll (s t : State) : Type 0 where
  pub history : t.history ≡ s.history
  pub messages : t.messages ≡ s.messages

leaves-ends : (l : Limits) (status : Status) (s t : State) → StepEnds l s t → t.ended ≡ Some status → (status ≡ Done → ⊥) → LeavesAll s t
leaves-ends l status s t (GoesOn u going) ended undone = let wrong : None ≡ Some status = sym going ∙ ended in absurd (cc)
leaves-ends l status s t (Refused limit) ended undone = record { history = refl; messages = refl }
leaves-ends l status s t (SourceRefused limit) ended undone = record { history = refl; messages = refl }
leaves-ends l status s t SourceFailed ended undone = record { history = refl; messages = refl }
leaves-ends l status s t Aborted ended undone = record { history = refl; messages = refl }
leaves-ends l status s t (IsDone u done tells) ended undone = let same : Some Done ≡ Some status = sym done ∙ ended in absurd (undone (cc))

pub last_step_leaves : (l : Limits) (status : Status) (s : State) → s.ended ≡ None → (step l s).ended ≡ Some status → (status ≡ Done → ⊥)
    → LeavesAll s (step l s)
last_step_leaves l status s going ended undone = leaves-ends l status s (step l s) (StepEnds-step l s going) ended undone
