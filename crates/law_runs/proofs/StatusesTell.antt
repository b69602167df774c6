-- What each status says of a run.
--
-- Each function f of the run has its lemma IsTold-f here, with a line for each of its cases.
use Rattle.std.proofs.Common.{◌≡◌, ◌⊎◌, inl, inr, ℕ, zero, suc, true, List, [], ◌∷◌, Option, Some, None, refl, sym, ◌∙◌, subst}
use Rattle.roff_num.specs.declared.limits.Limits.{Limits}
use Rattle.run_model.specs.PageEvents.{PageEvent}
use Rattle.run_model.specs.Output.{layout_of}
use Rattle.run_model.specs.Run.{State, initial, paged_state, phase_ended, unless_refused, with_registers, step_with, step, told_after, told_step, step_behind}
use Rattle.run_model.specs.Run.Counts.{first_passed, names_counted}
use Rattle.run_model.specs.Requests.{called_by}
use Rattle.run_model.specs.Springs.{next}
use Rattle.run_model.specs.Titles.{told}
use Rattle.run_model.specs.Starts.{history_given, with_given}
use Rattle.run_model.specs.declared.phase.Phase.{Phase}
use Rattle.run_model.specs.declared.phase.Phase.TheVariants.{Reading, LastMacro, Closing}
use Rattle.run_model.specs.declared.start.Start.{Start}
use Rattle.roff_num.specs.declared.limit.Limit.{Limit}
use Rattle.roff_num.specs.declared.num.Num.{Num}
use Rattle.run_model.specs.Results.{last_state}
use Rattle.law_runs.specs.Statuses.{HasMet, Tells, EachStatusTells}
use Rattle.run_model.specs.declared.status.Status.{Status}
use Rattle.input_model.specs.Input.{item_taken}
use Rattle.input_source.specs.Tape.{Tape, Item, Ending, Ends, Ended, Failed, Stopped, front}
use Rattle.law_runs.proofs.Stages.{Stage, Stage-event, Stage-given, Stage-paged, Stage-read, ended-over}
use Rattle.law_runs.proofs.Endings.{at_last_state, ended_or_not, step-ended, step-going}
use Rattle.law_runs.proofs.InputLeaving.{IsLeft-left_in}
use Rattle.law_runs.proofs.Told.{told_step-holds}
use Rattle.law_runs.proofs.PerformedOrStopped.{PerformedOrStopped, Performed, Sprang, EndsOver, StoppedAt, first_of, left_behind, performed_or_stopped}
use Rattle.run_model.proofs.Readings.{ReadsOn, LimitStops, AheadTaken, ByteTaken, HasEnded, NoteTaken, HalfEnds, InputLeft, LineEnds, PhaseEnds, MessageTold, RunAborts, SourceFails, SourceStops, SprungRead, ReadsOn-with_sprung, TextChanged, ReadsOn-text}
use Rattle.run_model.proofs.Behind.{Behind, Behind-ahead_taken, Behind-sprung_read}
use Rattle.page_model.specs.DueTexts.{TextDue}
use Rattle.law_runs.proofs.TextsChanged.{text-holds}

-- what is known of a run while it goes on: it has no last message yet, and nothing closes it before its input has ended
pub record GoesOn (s : State) : Type 0 where
  pub quiet : s.last_message ≡ []
  pub stage : Stage s

-- what is known of a run as it ended, if it did
abbrev TellsSo : Limits → Option Status → State → Type 0
TellsSo l None s = GoesOn s
TellsSo l (Some status) s = Tells l status s

-- what is known of a run, ended or not
abbrev pub IsTold : Limits → State → Type 0
IsTold l s = TellsSo l s.ended s

-- of one that goes on
IsTold-going : (l : Limits) (s : State) → s.ended ≡ None → GoesOn s → IsTold l s
IsTold-going l s going goes = subst (λ o. TellsSo l o s) (sym going) goes

-- and the other way round
pub GoesOn-told : (l : Limits) (s : State) → s.ended ≡ None → IsTold l s → GoesOn s
GoesOn-told l s going told = subst (λ o. TellsSo l o s) going told

-- a tape that answers an ending has no item left
HasMet-front : (items : List Item) (ends ending : Ending) → let rest : Tape = record { items = items; ending = ends } in front rest ≡ Ends ending → HasMet ending rest
HasMet-front [] ends ending is = record { items = refl; ends = cc }
HasMet-front (x ∷ items) ends ending is = absurd (cc)

-- a run goes on behind what was read
IsTold-behind : (l : Limits) (most : ℕ) (s t : State) → Behind most s t → s.ended ≡ None → s.last_message ≡ [] → Stage t → IsTold l t
IsTold-behind l most s t read going quiet stage =
    IsTold-going l t (read.ended ∙ going) (record { quiet = read.last_message ∙ quiet; stage = stage })

-- the source has ended, or is closed
HasMet-HasEnded : (s : State) → HasEnded s → HasMet Ended s.tape ⊎ (s.is_closed ≡ true)
HasMet-HasEnded s (inl closed) = inr closed
HasMet-HasEnded s (inr ends) = inl (HasMet-front s.tape.items s.tape.ending Ended ends)

-- an event is performed, or the run ends at it
IsTold-event : (l : Limits) (e : PageEvent) (es : List PageEvent) (s t : State) → s.ended ≡ None → s.last_message ≡ []
    → ((layout_of (told s.registers e ∷ s.history)).is_over ≡ true → HasEnded s) → Stage t
    → PerformedOrStopped l e es s t → IsTold l t
IsTold-event l e es s t going quiet ends stage (Performed allowed on none) = IsTold-going l t going (record { quiet = quiet; stage = stage })
IsTold-event l e es s t going quiet ends stage (Sprang name allowed on some) = IsTold-going l t going (record { quiet = quiet; stage = stage })
IsTold-event l e es s t going quiet ends stage (EndsOver allowed over) = (HasMet-HasEnded s (ends over), quiet)
IsTold-event l e es s t going quiet ends stage (StoppedAt limit) = inr refl

-- a phase ends, and with the last one the run
IsTold-phase_ended : (l : Limits) (phase : Phase) (s : State) → s.ended ≡ None → s.last_message ≡ [] → HasEnded s → Stage (phase_ended phase s)
    → IsTold l (phase_ended phase s)
IsTold-phase_ended l Reading s going quiet over stage = IsTold-going l (phase_ended Reading s) going (record { quiet = quiet; stage = stage })
IsTold-phase_ended l LastMacro s going quiet over stage = IsTold-going l (phase_ended LastMacro s) going (record { quiet = quiet; stage = stage })
IsTold-phase_ended l Closing s going quiet over stage = (HasMet-HasEnded s over, quiet)

-- what was read, or how the run ended
IsTold-read : (l : Limits) (s t : State) → ReadsOn l s t → s.ended ≡ None → s.last_message ≡ [] → Stage t → IsTold l t
IsTold-read l s t (LimitStops limit) going quiet stage = inr refl
IsTold-read l s t (AheadTaken item behind ahead charge is_made) going quiet stage =
    let taken : State = record s { input = item_taken item behind s.input } in
    IsTold-behind l _ taken t (Behind-ahead_taken item taken) going quiet stage
IsTold-read l s t (ByteTaken b none is_open gives charge is_made) going quiet stage = IsTold-going l t going (record { quiet = quiet; stage = stage })
IsTold-read l s t (NoteTaken message is_open gives) going quiet stage = IsTold-going l t going (record { quiet = quiet; stage = stage })
IsTold-read l s t (HalfEnds first others half is_made) going quiet stage = IsTold-going l t going (record { quiet = quiet; stage = stage })
IsTold-read l s t (PhaseEnds none half over unfinished is_made) going quiet stage = IsTold-phase_ended l s.phase s going quiet over stage
IsTold-read l s t (LineEnds unfinished none over is_made) going quiet stage = IsTold-going l t going (record { quiet = quiet; stage = stage })
IsTold-read l s t (MessageTold told is_made) going quiet stage = IsTold-going l t going (record { quiet = quiet; stage = stage })
IsTold-read l s t (RunAborts told) going quiet stage = (told, refl)
IsTold-read l s t (InputLeft leaves is_made) going quiet stage =
    let left = IsLeft-left_in s.phase s in IsTold-going l t (left.ended ∙ going) (record { quiet = left.last_message ∙ quiet; stage = stage })
IsTold-read l s t (SprungRead name sprung is_made) going quiet stage =
    IsTold-behind l _ s t (Behind-sprung_read (called_by name s.input.names) s) going quiet stage
IsTold-read l s t (TextChanged due text is_made) going quiet stage =
    IsTold-going l t (text-holds (λ (u : State). u.ended ≡ None) due s (λ names texts. going))
    (record { quiet = text-holds (λ (u : State). u.last_message ≡ []) due s (λ names texts. quiet); stage = stage })
IsTold-read l s t (SourceFails is_open fails) going quiet stage = (HasMet-front s.tape.items s.tape.ending Failed fails, refl)
IsTold-read l s t (SourceStops limit is_open stops) going quiet stage = inl (HasMet-front s.tape.items s.tape.ending (Stopped limit) stops, quiet)

-- a step of a run that hasn't ended
IsTold-step_with : (l : Limits) (es : List PageEvent) (s : State) → s.to_do ≡ es → s.ended ≡ None → GoesOn s → IsTold l (step_with l es s)
IsTold-step_with l (e ∷ es) s to_do going goes =
    let own : Option PageEvent = next s.history e in
    let done = performed_or_stopped l own e es s in
    IsTold-event l (first_of own e) (left_behind own e es s) s _ going goes.quiet (ended-over s e es to_do goes.stage) (Stage-event l e es s _ to_do done goes.stage) done
IsTold-step_with l [] s to_do going goes =
    let reads = ReadsOn-with_sprung l s.follows.sprung s refl in IsTold-read l s _ reads going goes.quiet
    (Stage-read l s _ reads goes.stage)

-- the text of a diversion changes first, if one does
IsTold-step_behind : (l : Limits) (due : Option TextDue) (s : State) → s.follows.text ≡ due → s.ended ≡ None → GoesOn s
    → IsTold l (step_behind l due s)
IsTold-step_behind l None s none going goes = IsTold-step_with l s.to_do s refl going goes
IsTold-step_behind l (Some due) s some going goes =
    let reads = ReadsOn-text l due s some in IsTold-read l s _ reads going goes.quiet (Stage-read l s _ reads goes.stage)

-- a step
IsTold-step : (l : Limits) (s : State) → IsTold l s → IsTold l (step l s)
IsTold-step l s told =
    elim (ended_or_not s.ended) [
      | inl ended ↦ subst (λ (t : State). IsTold l t) (sym (step-ended l s ended)) told
      | inr going ↦ subst (λ (t : State). IsTold l t) (sym (step-going l s going))
          (IsTold-step_behind l s.follows.text s refl going (GoesOn-told l s going told))
    ]

pub IsTold-told_step : (l : Limits) (s : State) → IsTold l s → IsTold l (told_step l s)
IsTold-told_step l s told = told_step-holds (IsTold l) l s (IsTold-step l s told) (λ going. inr refl)

-- so many steps
IsTold-told_after : (l : Limits) (n : ℕ) (s : State) → IsTold l s → IsTold l (told_after l n s)
IsTold-told_after l zero s told = told
IsTold-told_after l (suc n) s told = IsTold-told_after l n (told_step l s) (IsTold-told_step l s told)

-- registers are set that are given, or a limit refuses one
IsTold-unless_refused : (l : Limits) (r : Option Limit) (s done : State) → IsTold l done → IsTold l (unless_refused l r s done)
IsTold-unless_refused l None s done told = told
IsTold-unless_refused l (Some limit) s done told = inr refl

IsTold-with_registers : (l : Limits) (given : List (ℕ × Num)) (s : State) → s.ended ≡ None → GoesOn s → IsTold l (with_registers l given s)
IsTold-with_registers l [] s going goes = IsTold-going l s going goes
IsTold-with_registers l (first ∷ others) s going goes =
    let behind : State = record s { registers = with_given first s.registers; history = history_given first s.history } in
    IsTold-unless_refused l (first_passed l (names_counted behind.registers)) s _
    (IsTold-with_registers l others behind going (record { quiet = goes.quiet; stage = Stage-given first s goes.stage }))

-- of each run
pub IsTold-run : (l : Limits) (start : Start) (tape : Tape) (n : ℕ) → IsTold l (told_after l n (initial l start tape))
IsTold-run l start tape n =
    IsTold-told_after l n (initial l start tape)
    (IsTold-with_registers l start.registers.items (paged_state start tape) refl (record { quiet = refl; stage = Stage-paged start tape }))

-- each status tells how the run ended
pub each_status_tells : EachStatusTells
each_status_tells l start tape status ended =
    let s : State = last_state l start tape in
    subst (λ o. TellsSo l o s) ended (at_last_state (IsTold l) l start tape (IsTold-run l start tape))
