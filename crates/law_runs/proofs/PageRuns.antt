-- A run that is done wrote whole pages.
--
-- Each function f of the run has its lemma Writes-f here, with a line for each of its cases.
use Rattle.std.proofs.Common.{◌≡◌, ◌⊎◌, inl, inr, ℕ, zero, suc, Bool, true, false, not, ◌&&◌, ◌||◌, List, [], ◌∷◌, ◌++◌, map, Option, Some, None, refl, sym, ◌∙◌, ap, subst, is_some, ◌==◌, eqb-true}
use Rattle.run_model.specs.Results.{last_state}
use Rattle.page_model.specs.declared.event.Event.TheVariants.{FieldEnd, WordEnd, Break}
use Rattle.roff_num.specs.declared.limit.Limit.{Limit}
use Rattle.roff_num.specs.declared.limit.Limit.TheVariants.{Messages}
use Rattle.roff_num.specs.declared.limits.Limits.{Limits}
use Rattle.roff_num.specs.declared.num.Num.{Num}
use Rattle.input_model.specs.Input.{Ahead, DoAhead, item_taken}
use Rattle.page_model.specs.Happenings.{Does}
use Rattle.page_model.specs.Layout.{Layout}
use Rattle.page_model.specs.Queries.{takes_text}
use Rattle.page_model.specs.Springs.{goes_on}
use Rattle.page_model.specs.Turning.{with_event}
use Rattle.page_model.specs.declared.layout_event.LayoutEvent.{LayoutEvent}
use Rattle.page_model.specs.declared.layout_event.LayoutEvent.TheVariants.{Begin, Close, EjectLast}
use Rattle.run_model.specs.Environments.{PageHistory}
use Rattle.run_model.specs.Events.Lines.{closing_events}
use Rattle.run_model.specs.Layouts.{layout_of}
use Rattle.run_model.specs.Output.{written}
use Rattle.run_model.specs.Requests.{called_by}
use Rattle.run_model.specs.Requests.Effects.{page_numbered}
use Rattle.run_model.specs.Requests.Numbering.{number_of_page}
use Rattle.run_model.specs.Run.{State, grown, initial, paged_state, performing, phase_ended, step, step_behind, step_with, text_done, told_after, told_step, unless_refused, with_registers}
use Rattle.run_model.specs.Run.Counts.{first_passed, names_counted}
use Rattle.run_model.specs.Springs.{begins, left_if, left_of, next, page_begin_or}
use Rattle.run_model.specs.Starts.{history_given, pages_given, with_given}
use Rattle.run_model.specs.PageEvents.{PageEvent}
use Rattle.run_model.specs.Registers.{AllRegisters}
use Rattle.run_model.specs.Titles.{put_back, told}
use Rattle.run_model.specs.declared.event.PageEvent.TheVariants.{Text, Page}
use Rattle.run_model.specs.declared.phase.Phase.{Phase}
use Rattle.run_model.specs.declared.phase.Phase.TheVariants.{Reading, LastMacro, Closing}
use Rattle.run_model.specs.declared.status.Status.{Status}
use Rattle.run_model.specs.declared.status.Status.TheVariants.{Aborted, Done, Device, Limit as Limited}
use Rattle.run_model.specs.declared.start.Start.{Start}
use Rattle.run_model.proofs.GivenPages.{keeps-given}
use Rattle.run_model.proofs.Readings.{ReadsOn, LimitStops, AheadTaken, ByteTaken, NoteTaken, HalfEnds, InputLeft, LineEnds, PhaseEnds, MessageTold, RunAborts, SourceFails, SourceStops, SprungRead, ReadsOn-with_sprung, TextChanged}
use Rattle.run_model.proofs.Behind.{Behind-ahead_taken, Behind-sprung_read}
use Rattle.law_runs.specs.PageLaws.{WritesWholePages}
use Rattle.law_runs.specs.TrapLaws.{IsAmong, IsPutBack, Waits}
use Rattle.law_runs.proofs.ClosingPhase.{closing-event}
use Rattle.law_runs.proofs.ComesBefore.{ComesBefore, NothingComes, FieldEndComes, PageComes, WordEndComes, comes_before}
use Rattle.law_runs.proofs.Told.{told_step-holds}
use Rattle.law_runs.proofs.Endings.{at_last_state, not-ended, step-ended, step-going}
use Rattle.law_runs.proofs.InputLeaving.{IsLeft-left_in}
use Rattle.run_model.proofs.MeantEvents.{AllMeant, AreMeant}
use Rattle.law_runs.proofs.MeantAhead.{AllMeantAhead, ahead-back, meant-back}
use Rattle.law_runs.proofs.LastPage.{IsWhole, eject-over, is_whole}
use Rattle.law_runs.proofs.PagesByRequests.{so_far-event}
use Rattle.law_runs.proofs.PagesSoFar.{IsSoFar, so_far-begin, so_far-blank, so_far-close, so_far-listed, so_far-next, so_far-number, so_far-text}
use Rattle.law_runs.proofs.PerformedOrStopped.{PerformedOrStopped, Performed, Sprang, EndsOver, StoppedAt, first_of, left_behind, performed_or_stopped}
use Rattle.law_runs.proofs.Stages.{Goes, HasMeant, LaidOpen, Stage, Closes as StageCloses, Stage-given, Stage-paged, history-read, meant-last_called, meant-left, meant-performed, meant-read, open-first}
use Rattle.law_runs.proofs.WaitingEvents.{IsLost, RunEnds, StillWaits, WaitsStill, among-behind, among-front, back-among, back-behind, none_back, put_back_where_idle, waits-read}
use Rattle.page_model.specs.DueTexts.{TextDue}
use Rattle.law_runs.proofs.TextsChanged.{text-holds, with_texts_done}
use Rattle.roff_store.specs.Named.{Named}
use Rattle.roff_store.specs.Texts.{Entry}

-- where no text is taken no page was begun
unbegun : (begun : ℕ) (diverting : Bool) → (not (begun == 0) || diverting) ≡ false → begun ≡ 0
unbegun begun diverting none = eqb-true begun 0 (by_test (begun == 0) none)
  where
    by_test : (first : Bool) → (not first || diverting) ≡ false → first ≡ true
    by_test true none = refl
    by_test false none = absurd (cc)

-- what comes before an event, or that one
so_far-first : (rs : AllRegisters) (h : PageHistory) (e : PageEvent) (own : Option PageEvent) → ComesBefore h e own
    → (begins h e ≡ false → IsSoFar (told rs e ∷ h)) → (layout_of h).is_over ≡ false → IsSoFar h
    → IsSoFar (told rs (first_of own e) ∷ h)
so_far-first rs h e own (NothingComes none_begins) itself goes so_far = itself none_begins
so_far-first rs h e own (FieldEndComes ends none_begins fewer) itself goes so_far = so_far-text h FieldEnd none_begins goes so_far
so_far-first rs h e own (WordEndComes none_begins fewer) itself goes so_far = so_far-text h WordEnd none_begins goes so_far
so_far-first rs h e own (PageComes none_begun fewer) itself goes so_far = so_far-begin h (unbegun (layout_of h).begun _ none_begun) goes so_far

-- a run closes: the last page's eject is to come yet
record IsClosing (s : State) : Type 0 where
  going : s.ended ≡ None
  phase : s.phase ≡ Closing
  meant : HasMeant true s
  waits : Waits (Page EjectLast) s
  closing : (layout_of s.history).is_closing ≡ true
  over : (layout_of s.history).is_over ≡ false

-- where a run stands: it reads, or its closing begins, or it closes, or it has ended; where it is done its pages are whole
data Written (s : State) : Type 0 where
  Reads : s.ended ≡ None → (s.phase ≡ Closing → ⊥) → HasMeant false s → LaidOpen (layout_of s.history) → IsSoFar s.history → Written s
  ClosesAt : s.ended ≡ None → s.phase ≡ Closing → s.to_do ≡ closing_events → s.input.ahead ≡ [] → (layout_of s.history).is_over ≡ false
      → IsSoFar s.history → Written s
  Closes : IsClosing s → IsSoFar s.history → Written s
  Over : (status : Status) → s.ended ≡ Some status → (status ≡ Done → IsWhole s.history) → Written s

-- an event is performed as a run reads
reads-performed : (l : Limits) (e : PageEvent) (left : List PageEvent) (s t : State) → PerformedOrStopped l e left s t → s.ended ≡ None
    → (s.phase ≡ Closing → ⊥) → HasMeant false t → LaidOpen (layout_of (told s.registers e ∷ s.history)) → IsSoFar (told s.registers e ∷ s.history) → Written t
reads-performed l e left s t (Performed allowed on none) going reads meant laid so_far = Reads going reads meant laid so_far
reads-performed l e left s t (Sprang name allowed on some) going reads meant laid so_far = Reads going reads meant laid so_far
reads-performed l e left s t (EndsOver allowed over) going reads meant laid so_far = let wrong : true ≡ false = sym over ∙ laid.over in absurd (cc)
reads-performed l e left s t (StoppedAt limit) going reads meant laid so_far = Over (Limited limit) refl (λ done. absurd (cc))

-- the last page's eject is put back
last_back : (left : List PageEvent) (items : List (Ahead PageEvent)) → IsAmong (Page EjectLast) left ⊎ IsPutBack (Page EjectLast) items
    → IsPutBack (Page EjectLast) (map DoAhead (map put_back left) ++ items)
last_back left items (inl among) = back-among (Page EjectLast) left items refl among
last_back left items (inr back) = back-behind (Page EjectLast) (map put_back left) items back

-- an event is performed as a run closes: behind it the eject waits, unless the last page has ended
closes-performed : (l : Limits) (e : PageEvent) (left : List PageEvent) (s t : State) → PerformedOrStopped l e left s t → s.ended ≡ None
    → s.phase ≡ Closing → AllMeant true left → AllMeantAhead true s.input.ahead
    → let h : PageHistory = told s.registers e ∷ s.history in
    ((layout_of h).is_over ≡ false → IsAmong (Page EjectLast) left ⊎ IsPutBack (Page EjectLast) s.input.ahead)
    → (layout_of h).is_closing ≡ true → IsSoFar h → Written t
closes-performed l e left s t (Performed allowed on none) going phase meant ahead waits closing so_far =
    Closes (record { going = going; phase = phase; meant = record { to_do = meant; ahead = ahead }; waits = waits on; closing = closing; over = on }) so_far
closes-performed l e left s t (Sprang name allowed on some) going phase meant ahead waits closing so_far =
    Closes (record {
      going = going;
      phase = phase;
      meant = record { to_do = tt; ahead = ahead-back true (map put_back left) s.input.ahead (meant-back true left meant) ahead };
      waits = inr (last_back left s.input.ahead (waits on));
      closing = closing;
      over = on;
    }) so_far
closes-performed l e left s t (EndsOver allowed over) going phase meant ahead waits closing so_far =
    Over Done refl (λ done. is_whole (told s.registers e ∷ s.history) over so_far)
closes-performed l e left s t (StoppedAt limit) going phase meant ahead waits closing so_far = Over (Limited limit) refl (λ done. absurd (cc))

-- the first of the events that close it
none-closes : (takes : Bool) → page_begin_or (not takes && false) None ≡ None
none-closes true = refl
none-closes false = refl

begins-closing : (l : Limits) (s : State) → s.ended ≡ None → s.phase ≡ Closing → s.input.ahead ≡ [] → IsSoFar s.history
    → Written (step_with l closing_events s)
begins-closing l s going phase none so_far =
    let rest : List PageEvent = Text WordEnd ∷ Text Break ∷ Page EjectLast ∷ [] in
    subst (λ (own : Option PageEvent). Written (performing l own (Page Close) rest s)) (sym (none-closes (takes_text (layout_of s.history))))
    (closes-performed l (Page Close) rest s _ (performed_or_stopped l None (Page Close) rest s) going phase (tt, (tt, (refl, tt)))
    (subst (AllMeantAhead true) (sym none) tt) (λ goes. inl (inr (inr (inl refl)))) refl (so_far-close s.history so_far))

-- the last page's eject goes on, or the page has ended with it
last_left : (goes over : Bool) → (goes ≡ false → over ≡ true) → over ≡ false → IsAmong (Page EjectLast) (left_if goes EjectLast)
last_left true over ends on = inl refl
last_left false over ends on = let wrong : true ≡ false = sym (ends refl) ∙ on in absurd (cc)

eject_left : (rs : AllRegisters) (h : PageHistory) (e : PageEvent) (es : List PageEvent) (items : List (Ahead PageEvent)) → (layout_of h).is_closing ≡ true
    → (layout_of (told rs e ∷ h)).is_over ≡ false → IsAmong (Page EjectLast) (e ∷ es) ⊎ IsPutBack (Page EjectLast) items
    → IsAmong (Page EjectLast) (left_of h (told rs e) ++ es) ⊎ IsPutBack (Page EjectLast) items
eject_left rs h e es items closing on (inl (inl is)) =
    let x : LayoutEvent = EjectLast in
    let L : Layout = layout_of h in
    let over : (layout_of (Page x ∷ h)).is_over ≡ false = subst (λ (first : PageEvent). (layout_of (told rs first ∷ h)).is_over ≡ false) is on in
    let among : IsAmong (Page x) (left_of h (told rs (Page x))) =
    last_left (goes_on (Does x) L) (with_event (Does x) L).is_over (λ stops. eject-over L closing stops) over in
    inl (among-front (Page x) (left_of h (told rs e)) es (subst (λ (first : PageEvent). IsAmong (Page x) (left_of h (told rs first))) (sym is) among))
eject_left rs h e es items closing on (inl (inr among)) = inl (among-behind (Page EjectLast) (left_of h (told rs e)) es among)
eject_left rs h e es items closing on (inr back) = inr back

-- the event is still to be done behind what comes before it
still_to_do : (s : State) (e : PageEvent) (es : List PageEvent) → s.to_do ≡ e ∷ es → Waits (Page EjectLast) s
    → IsAmong (Page EjectLast) (e ∷ es) ⊎ IsPutBack (Page EjectLast) s.input.ahead
still_to_do s e es to_do (inl among) = inl (subst (IsAmong (Page EjectLast)) to_do among)
still_to_do s e es to_do (inr back) = inr back

own-closes : (l : Limits) (own e : PageEvent) (es : List PageEvent) (s t : State) → s.to_do ≡ e ∷ es → PerformedOrStopped l own (e ∷ es) s t → IsClosing s
    → IsSoFar (told s.registers own ∷ s.history) → Written t
own-closes l own e es s t to_do done is so_far =
    closes-performed l own (e ∷ es) s t done is.going is.phase (subst (AllMeant true) to_do is.meant.to_do) is.meant.ahead
    (λ on. still_to_do s e es to_do is.waits) (closing-event s.registers s.history own is.closing) so_far

-- one of them, or of what macros mean, by what comes before it
closes-by : (l : Limits) (own : Option PageEvent) (e : PageEvent) (es : List PageEvent) (s t : State) → s.to_do ≡ e ∷ es → ComesBefore s.history e own
    → PerformedOrStopped l (first_of own e) (left_behind own e es s) s t → IsClosing s → IsSoFar s.history → Written t
closes-by l own e es s t to_do (NothingComes none_begins) done is so_far =
    let meant : AllMeant true (e ∷ es) = subst (AllMeant true) to_do is.meant.to_do in
    closes-performed l e (left_behind None e es s) s t done is.going is.phase (meant-left true None e es s meant) is.meant.ahead
    (λ on. eject_left s.registers s.history e es s.input.ahead is.closing on (still_to_do s e es to_do is.waits))
    (closing-event s.registers s.history e is.closing)
    (so_far-event true s.registers s.history e meant.0 none_begins is.over so_far)
closes-by l own e es s t to_do (FieldEndComes ends none_begins fewer) done is so_far =
    let h : PageHistory = s.history in
    own-closes l (Text FieldEnd) e es s t to_do done is (so_far-text h FieldEnd none_begins is.over so_far)
closes-by l own e es s t to_do (WordEndComes none_begins fewer) done is so_far =
    let h : PageHistory = s.history in
    own-closes l (Text WordEnd) e es s t to_do done is (so_far-text h WordEnd none_begins is.over so_far)
closes-by l own e es s t to_do (PageComes none_begun fewer) done is so_far =
    let h : PageHistory = s.history in
    own-closes l (Page Begin) e es s t to_do done is (so_far-begin h (unbegun (layout_of h).begun _ none_begun) is.over so_far)

-- what was read of a run that goes on reading
reads-phase : (phase : Phase) (s : State) → s.phase ≡ phase → s.to_do ≡ [] → s.input.ahead ≡ [] → s.ended ≡ None → (s.phase ≡ Closing → ⊥)
    → HasMeant false s → LaidOpen (layout_of s.history) → IsSoFar s.history → Written (phase_ended phase s)
reads-phase Reading s is idle none going reads meant laid so_far =
    Reads going (λ closing. absurd (cc)) (record { to_do = meant.to_do; ahead = meant-last_called false s meant }) laid so_far
reads-phase LastMacro s is idle none going reads meant laid so_far =
    ClosesAt going refl (ap (λ (es : List PageEvent). closing_events ++ es) idle) none laid.over so_far
reads-phase Closing s is idle none going reads meant laid so_far = absurd (reads is)

reads-on : (l : Limits) (s t : State) → ReadsOn l s t → t.phase ≡ s.phase → t.ended ≡ s.ended → s.to_do ≡ [] → s.ended ≡ None → (s.phase ≡ Closing → ⊥)
    → HasMeant false s → LaidOpen (layout_of s.history) → IsSoFar s.history → Written t
reads-on l s t read phase ended idle going reads meant laid so_far =
    let same : t.history ≡ s.history = history-read l s t read in
    elim (meant-read false l s t read meant) [
      | inl behind ↦ Reads (ended ∙ going) (λ closing. reads (sym phase ∙ closing)) behind (subst (λ (h : PageHistory). LaidOpen (layout_of h)) (sym same) laid)
          (subst IsSoFar (sym same) so_far)
      | inr passed ↦ subst Written (sym passed.is) (reads-phase s.phase s refl idle passed.none going reads meant laid so_far)
    ]

-- what was read, or how the run ended
Writes-read : (l : Limits) (s t : State) → ReadsOn l s t → s.to_do ≡ [] → s.ended ≡ None → (s.phase ≡ Closing → ⊥) → HasMeant false s
    → LaidOpen (layout_of s.history) → IsSoFar s.history → Written t
Writes-read l s t (LimitStops limit) idle going reads meant laid so_far = Over (Limited limit) refl (λ done. absurd (cc))
Writes-read l s t (AheadTaken item behind ahead charge is_made) idle going reads meant laid so_far =
    let read = Behind-ahead_taken item (record s { input = item_taken item behind s.input }) in
    reads-on l s t (AheadTaken item behind ahead charge is_made) read.phase read.ended idle going reads meant laid so_far
Writes-read l s t (ByteTaken b none is_open gives charge is_made) idle going reads meant laid so_far =
    reads-on l s t (ByteTaken b none is_open gives charge is_made) refl refl idle going reads meant laid so_far
Writes-read l s t (NoteTaken message is_open gives) idle going reads meant laid so_far =
    reads-on l s t (NoteTaken message is_open gives) refl refl idle going reads meant laid so_far
Writes-read l s t (HalfEnds first others half is_made) idle going reads meant laid so_far =
    reads-on l s t (HalfEnds first others half is_made) refl refl idle going reads meant laid so_far
Writes-read l s t (PhaseEnds none half ends unfinished is_made) idle going reads meant laid so_far =
    reads-phase s.phase s refl idle none going reads meant laid so_far
Writes-read l s t (LineEnds unfinished none ends is_made) idle going reads meant laid so_far =
    reads-on l s t (LineEnds unfinished none ends is_made) refl refl idle going reads meant laid so_far
Writes-read l s t (MessageTold told is_made) idle going reads meant laid so_far = reads-on l s t (MessageTold told is_made) refl refl idle going reads meant laid so_far
Writes-read l s t (RunAborts told) idle going reads meant laid so_far = Over Aborted refl (λ done. absurd (cc))
Writes-read l s t (InputLeft leaves is_made) idle going reads meant laid so_far =
    let left = IsLeft-left_in s.phase s in reads-on l s t (InputLeft leaves is_made) left.phase left.ended idle going reads meant laid so_far
Writes-read l s t (SprungRead name sprung is_made) idle going reads meant laid so_far =
    let read = Behind-sprung_read (called_by name s.input.names) s in
    reads-on l s t (SprungRead name sprung is_made) read.phase read.ended idle going reads meant laid so_far
Writes-read l s t (TextChanged due text is_made) idle going reads meant laid so_far =
    text-holds Written due s (λ names texts. Reads going reads (record { to_do = meant.to_do; ahead = meant.ahead }) laid so_far)
Writes-read l s t (SourceFails is_open fails) idle going reads meant laid so_far = Over Device refl (λ done. absurd (cc))
Writes-read l s t (SourceStops limit is_open stops) idle going reads meant laid so_far = Over (Limited limit) refl (λ done. absurd (cc))

-- what was read as a run closes
closes-still : (s t : State) → StillWaits (Page EjectLast) s t → t.history ≡ s.history → t.phase ≡ s.phase → t.ended ≡ s.ended → HasMeant true t → IsClosing s
    → IsSoFar s.history → Written t
closes-still s t (WaitsStill waits) same phase ended meant is so_far =
    Closes (record {
      going = ended ∙ is.going;
      phase = phase ∙ is.phase;
      meant = meant;
      waits = waits;
      closing = ap (λ (h : PageHistory). (layout_of h).is_closing) same ∙ is.closing;
      over = ap (λ (h : PageHistory). (layout_of h).is_over) same ∙ is.over;
    }) (subst IsSoFar (sym same) so_far)
closes-still s t (RunEnds some) same phase ended meant is so_far = absurd (not-ended t.ended (ended ∙ is.going) some)
closes-still s t (IsLost leaves reads) same phase ended meant is so_far = absurd (reads is.phase)

closes-on : (l : Limits) (s t : State) → ReadsOn l s t → t.phase ≡ s.phase → t.ended ≡ s.ended → s.to_do ≡ [] → IsClosing s → IsSoFar s.history → Written t
closes-on l s t read phase ended idle is so_far =
    elim (meant-read true l s t read is.meant) [
      | inl meant ↦
          closes-still s t (waits-read (Page EjectLast) l s t read idle is.waits) (history-read l s t read) phase ended meant is so_far
      | inr passed ↦ absurd (none_back (Page EjectLast) s.input.ahead passed.none (put_back_where_idle (Page EjectLast) s idle is.waits))
    ]

closing-texts : (s : State) (names : Named Entry) (texts : List (List ℕ)) → IsClosing s → IsClosing (with_texts_done names texts s)
closing-texts s names texts is = record {
  going = is.going;
  phase = is.phase;
  meant = record { to_do = is.meant.to_do; ahead = is.meant.ahead };
  waits = is.waits;
  closing = is.closing;
  over = is.over;
}

Closes-read : (l : Limits) (s t : State) → ReadsOn l s t → s.to_do ≡ [] → IsClosing s → IsSoFar s.history → Written t
Closes-read l s t (LimitStops limit) idle is so_far = Over (Limited limit) refl (λ done. absurd (cc))
Closes-read l s t (AheadTaken item behind ahead charge is_made) idle is so_far =
    let read = Behind-ahead_taken item (record s { input = item_taken item behind s.input }) in
    closes-on l s t (AheadTaken item behind ahead charge is_made) read.phase read.ended idle is so_far
Closes-read l s t (ByteTaken b none is_open gives charge is_made) idle is so_far =
    closes-on l s t (ByteTaken b none is_open gives charge is_made) refl refl idle is so_far
Closes-read l s t (NoteTaken message is_open gives) idle is so_far = closes-on l s t (NoteTaken message is_open gives) refl refl idle is so_far
Closes-read l s t (HalfEnds first others half is_made) idle is so_far = closes-on l s t (HalfEnds first others half is_made) refl refl idle is so_far
Closes-read l s t (PhaseEnds none half ends unfinished is_made) idle is so_far =
    absurd (none_back (Page EjectLast) s.input.ahead none (put_back_where_idle (Page EjectLast) s idle is.waits))
Closes-read l s t (LineEnds unfinished none ends is_made) idle is so_far = closes-on l s t (LineEnds unfinished none ends is_made) refl refl idle is so_far
Closes-read l s t (MessageTold told is_made) idle is so_far = closes-on l s t (MessageTold told is_made) refl refl idle is so_far
Closes-read l s t (RunAborts told) idle is so_far = Over Aborted refl (λ done. absurd (cc))
Closes-read l s t (InputLeft leaves is_made) idle is so_far =
    let left = IsLeft-left_in s.phase s in closes-on l s t (InputLeft leaves is_made) left.phase left.ended idle is so_far
Closes-read l s t (SprungRead name sprung is_made) idle is so_far =
    let read = Behind-sprung_read (called_by name s.input.names) s in
    closes-on l s t (SprungRead name sprung is_made) read.phase read.ended idle is so_far
Closes-read l s t (TextChanged due text is_made) idle is so_far =
    text-holds Written due s (λ names texts. Closes (closing-texts s names texts is) so_far)
Closes-read l s t (SourceFails is_open fails) idle is so_far = Over Device refl (λ done. absurd (cc))
Closes-read l s t (SourceStops limit is_open stops) idle is so_far = Over (Limited limit) refl (λ done. absurd (cc))

-- a step of a run that reads
Writes-reading : (l : Limits) (es : List PageEvent) (s : State) → s.to_do ≡ es → s.ended ≡ None → (s.phase ≡ Closing → ⊥) → HasMeant false s
    → LaidOpen (layout_of s.history) → IsSoFar s.history → Written (step_with l es s)
Writes-reading l (e ∷ es) s to_do going reads is laid so_far =
    let own : Option PageEvent = next s.history e in
    let h : PageHistory = s.history in
    let done = performed_or_stopped l own e es s in
    let meant : AreMeant (e ∷ es) = subst (AllMeant false) to_do is.to_do in
    let written_on : IsSoFar (told s.registers (first_of own e) ∷ h) =
    so_far-first s.registers h e own (comes_before h e) (λ none. so_far-event false s.registers h e meant.0 none laid.over so_far) laid.over so_far in
    reads-performed l (first_of own e) (left_behind own e es s) s _ done going reads
    (meant-performed false l (first_of own e) (left_behind own e es s) s _ done (meant-left false own e es s meant) is)
    (open-first s.registers h e own (comes_before h e) meant.0 laid) written_on
Writes-reading l [] s to_do going reads is laid so_far =
    Writes-read l s _ (ReadsOn-with_sprung l s.follows.sprung s refl) to_do going reads is laid so_far

-- one of a run that closes
Writes-closing : (l : Limits) (es : List PageEvent) (s : State) → s.to_do ≡ es → IsClosing s → IsSoFar s.history → Written (step_with l es s)
Writes-closing l (e ∷ es) s to_do is so_far =
    let own : Option PageEvent = next s.history e in
    closes-by l own e es s _ to_do (comes_before s.history e) (performed_or_stopped l own e es s) is so_far
Writes-closing l [] s to_do is so_far = Closes-read l s _ (ReadsOn-with_sprung l s.follows.sprung s refl) to_do is so_far

-- the text of a diversion changes, and what was written stays; or a limit stops the run
written-texts : (names : Named Entry) (texts : List (List ℕ)) (s : State) → Written s → Written (with_texts_done names texts s)
written-texts names texts s (Reads going reads is laid so_far) =
    Reads going reads (record { to_do = is.to_do; ahead = is.ahead }) laid so_far
written-texts names texts s (ClosesAt going phase to_do none goes so_far) = ClosesAt going phase to_do none goes so_far
written-texts names texts s (Closes is so_far) = Closes (closing-texts s names texts is) so_far
written-texts names texts s (Over status ended whole) = Over status ended whole

Writes-unless_refused : (l : Limits) (r : Option Limit) (s done : State) → Written done → Written (unless_refused l r s done)
Writes-unless_refused l None s done written = written
Writes-unless_refused l (Some limit) s done written = Over (Limited limit) refl (λ done. absurd (cc))

Writes-step_behind : (l : Limits) (due : Option TextDue) (s : State) → Written s → Written (step_with l s.to_do s)
    → Written (step_behind l due s)
Writes-step_behind l None s written others = others
Writes-step_behind l (Some due) s written others =
    Writes-unless_refused l (first_passed l (grown (text_done due s))) s (text_done due s)
    (text-holds Written due s (λ names texts. written-texts names texts s written))

-- a step
Writes-step : (l : Limits) (s : State) → Written s → Written (step l s)
Writes-step l s (Reads going reads is laid so_far) =
    subst Written (sym (step-going l s going))
    (Writes-step_behind l s.follows.text s (Reads going reads is laid so_far) (Writes-reading l s.to_do s refl going reads is laid so_far))
Writes-step l s (ClosesAt going phase to_do none goes so_far) =
    let first : Written (step_with l closing_events s) = begins-closing l s going phase none so_far in
    subst Written (sym (step-going l s going))
    (Writes-step_behind l s.follows.text s (ClosesAt going phase to_do none goes so_far)
    (subst (λ (es : List PageEvent). Written (step_with l es s)) (sym to_do) first))
Writes-step l s (Closes is so_far) =
    subst Written (sym (step-going l s is.going))
    (Writes-step_behind l s.follows.text s (Closes is so_far) (Writes-closing l s.to_do s refl is so_far))
Writes-step l s (Over status ended whole) =
    subst Written (sym (step-ended l s (ap is_some ended))) (Over status ended whole)

Writes-told_after : (l : Limits) (n : ℕ) (s : State) → Written s → Written (told_after l n s)
Writes-told_after l zero s written = written
Writes-told_after l (suc n) s written =
    Writes-told_after l n (told_step l s) (told_step-holds Written l s (Writes-step l s written) (λ going. Over (Limited Messages) refl (λ done. absurd (cc))))

-- registers that are given
so_far-numbered : (n : Option Num) (h : PageHistory) → IsSoFar h → IsSoFar (page_numbered n ++ h)
so_far-numbered None h so_far = so_far
so_far-numbered (Some n) h so_far = so_far-number h n so_far

written-stage : (s : State) → Stage s → s.ended ≡ None → s.phase ≡ Reading → IsSoFar s.history → Written s
written-stage s (Goes is laid) going reads so_far = Reads going (λ closing. let wrong : Reading ≡ Closing = sym reads ∙ closing in absurd (cc)) is laid so_far
written-stage s (StageCloses phase ended) going reads so_far = let wrong : Reading ≡ Closing = sym reads ∙ phase in absurd (cc)

Writes-with_registers : (l : Limits) (given : List (ℕ × Num)) (s : State) → s.ended ≡ None → s.phase ≡ Reading → Stage s → IsSoFar s.history
    → Written (with_registers l given s)
Writes-with_registers l [] s going reads stage so_far = written-stage s stage going reads so_far
Writes-with_registers l (first ∷ others) s going reads stage so_far =
    let behind : State = record s { registers = with_given first s.registers; history = history_given first s.history } in
    Writes-unless_refused l (first_passed l (names_counted behind.registers)) s _
    (Writes-with_registers l others behind going reads (Stage-given first s stage) (so_far-numbered (number_of_page (first.0 ∷ []) first.1) s.history so_far))

-- nothing is written of what is given of the pages
so_far-paged : (start : Start) → IsSoFar (pages_given start)
so_far-paged start = keeps-given IsSoFar so_far-listed (λ n h so_far. so_far-next h n so_far) start so_far-blank

-- of one that is done the pages are whole
done-whole : (s : State) → Written s → s.ended ≡ Some Done → IsWhole s.history
done-whole s (Reads going reads is laid so_far) done = let wrong : None ≡ Some Done = sym going ∙ done in absurd (cc)
done-whole s (ClosesAt going phase to_do none goes so_far) done = let wrong : None ≡ Some Done = sym going ∙ done in absurd (cc)
done-whole s (Closes is so_far) done = let wrong : None ≡ Some Done = sym is.going ∙ done in absurd (cc)
done-whole s (Over status ended whole) done = let same : Some status ≡ Some Done = sym ended ∙ done in whole (cc)

pub writes_whole_pages : WritesWholePages
writes_whole_pages l start tape done =
    let each : (n : ℕ) → Written (told_after l n (initial l start tape)) =
    λ n. Writes-told_after l n (initial l start tape)
    (Writes-with_registers l start.registers.items (paged_state start tape) refl refl (Stage-paged start tape) (so_far-paged start)) in
    done-whole (last_state l start tape) (at_last_state Written l start tape each) done
