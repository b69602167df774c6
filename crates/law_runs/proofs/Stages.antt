-- Nothing closes a run before its input has ended: until then no event ends the last page.
--
-- Each function f of the run has its lemma Stage-f here, with a line for each of its cases.
use Rattle.std.proofs.Common.{◌≡◌, ℕ, Bool, true, false, List, [], ◌∷◌, ◌++◌, map, Option, Some, None, ◌⊎◌, inl, inr, refl, sym, ◌∙◌, ap, subst, nat_le, option_map, if◌then◌else◌}
use Rattle.page_model.specs.Behind.{finished}
use Rattle.page_model.specs.Lines.{Finished}
use Rattle.page_model.specs.declared.event.Event.TheVariants.{FieldEnd, WordEnd}
use Rattle.roff_num.specs.ShortNames.{name_bytes}
use Rattle.roff_num.specs.declared.limits.Limits.{Limits}
use Rattle.roff_num.specs.declared.num.Num.{Num}
use Rattle.input_source.specs.Tape.{Tape, Item, Ended, Ends, Gives, front}
use Rattle.input_model.specs.Input.{Ahead, ByteAhead, FreeAhead, EndAhead, ReturnAhead, DoAhead, counting, item_taken, leaving, outermost_back}
use Rattle.input_model.specs.Input.Calls.{called_text}
use Rattle.input_model.specs.Input.Names.{body_named}
use Rattle.page_model.specs.Happenings.{Happening, Does, Places, Titles}
use Rattle.page_model.specs.declared.layout_event.LayoutEvent.{LayoutEvent}
use Rattle.page_model.specs.declared.layout_event.LayoutEvent.TheVariants.{ListPages, Begin, Close, Space, Need, Eject, EjectTo, EjectOn, EjectLast, Length, Offset, Next, Number, NoSpace, Plant, Uproot, MoveTrap, RemoveTrap, DiversionTrap, NoDiversionTrap, Divert, EndDivert}
use Rattle.page_model.specs.Layout.{Box, Layout, page_place}
use Rattle.page_model.specs.Puts.{Put, appended, puts}
use Rattle.page_model.specs.Turning.{behind_put, next_behind, page_begun, unput, with_boxes}
use Rattle.run_model.specs.Environments.{PageHistory, text_of}
use Rattle.run_model.specs.Layouts.{laid_out, layout_of, placed}
use Rattle.run_model.specs.Registers.{AllRegisters}
use Rattle.run_model.specs.Titles.{put_back, title_told, told}
use Rattle.run_model.specs.Reading.{escape_ended, byte_taking}
use Rattle.run_model.specs.Reading.Ends.{end_taking}
use Rattle.run_model.specs.Reading.Items.{Taking}
use Rattle.run_model.specs.Reading.Returns.{back_of, behind_return, gone_back_to}
use Rattle.run_model.specs.Requests.{called_by}
use Rattle.run_model.specs.Requests.Effects.{page_numbered}
use Rattle.run_model.specs.Requests.Numbering.{number_of_page}
use Rattle.run_model.specs.Run.{State, ahead_taken, known, left_in, moved, paged_state, phase_ended, going_back_to, sprung_read, taken_as}
use Rattle.run_model.specs.Springs.{left_of, next}
use Rattle.run_model.specs.Reading.Calls.{last_called}
use Rattle.run_model.specs.Starts.{history_given, with_given}
use Rattle.run_model.specs.PageEvents.{PageEvent}
use Rattle.run_model.specs.declared.line_state.LineState.{LineState}
use Rattle.run_model.specs.declared.event.PageEvent.TheVariants.{Text, Page, Interrupt, Environment, Back, InputTrap as SetsTrap, Title}
use Rattle.run_model.specs.declared.phase.Phase.{Phase}
use Rattle.run_model.specs.declared.phase.Phase.TheVariants.{Reading, LastMacro, Closing}
use Rattle.run_model.specs.declared.request.Called.{Called}
use Rattle.run_model.specs.declared.start.Start.{Start}
use Rattle.run_model.proofs.GoingBack.{going_back-by}
use Rattle.run_model.proofs.GivenPages.{keeps-given}
use Rattle.run_model.specs.declared.request.Called.TheVariants.{Request as ARequest, Body as ABody, Nothing as Unknown}
use Rattle.run_model.proofs.Readings.{ReadsOn, LimitStops, AheadTaken, ByteTaken, HasEnded, NoteTaken, HalfEnds, InputLeft, LineEnds, PhaseEnds, MessageTold, RunAborts, SourceFails, SourceStops, SprungRead, TextChanged}
use Rattle.run_model.proofs.Behind.{Behind-ahead_taken, Behind-sprung_read, Passed-phase_ended}
use Rattle.law_runs.proofs.ComesBefore.{ComesBefore, NothingComes, FieldEndComes, PageComes, WordEndComes, comes_before}
use Rattle.law_runs.proofs.InputLeaving.{IsLeft-left_in}
use Rattle.run_model.proofs.GrowingAhead.{ahead-called, ahead-interrupted, ahead-same}
use Rattle.run_model.proofs.MeantEvents.{AllMeant, AreMeant, MayBe, meant-append, meant-events}
use Rattle.law_runs.proofs.MeantAhead.{AllMeantAhead, ahead-back, ahead-last_called, all-meant, meant-back, meant-grown, meant-left_of}
use Rattle.law_runs.proofs.PerformedOrStopped.{PerformedOrStopped, Performed, Sprang, EndsOver, StoppedAt, first_of, left_behind}
use Rattle.run_model.proofs.ReadEvents.{Means, Means-end_taking, Means-escape_ended, Means-taking}
use Rattle.law_runs.proofs.PutHolds.{put-holds}
use Rattle.page_model.specs.Stops.{is_diverted}
use Rattle.law_runs.proofs.TextsChanged.{text-holds}

-- the closing phase hasn't begun, and the layout isn't over
pub record LaidOpen (L : Layout) : Type 0 where
  pub closing : L.is_closing ≡ false
  pub over : L.is_over ≡ false

-- no page is the last one then
open-turned : (full closing : Bool) (L : Layout) → closing ≡ false → LaidOpen L
    → LaidOpen (if full then (if closing then record L { is_over = true } else page_begun L) else L)
open-turned true true L opens is = absurd (cc)
open-turned true false L opens is = record { closing = is.closing; over = is.over }
open-turned false closing L opens is = is

-- behind what is put, if something is
open-put : (x : Happening) (p : Option Put) (boxes : List Box) (L : Layout) → LaidOpen (unput x L) → LaidOpen L → LaidOpen (behind_put x p boxes L)
open-put x None boxes L unput is = unput
open-put x (Some p) boxes L unput is =
    let M : Layout = with_boxes x boxes (record L { next = next_behind x L.next }) in
    let opens : LaidOpen M = record { closing = is.closing; over = is.over } in
    put-holds LaidOpen (is_diverted x L) M opens (open-turned (nat_le M.length (page_place M)) M.is_closing M is.closing opens)

-- behind a line that is placed
open-laid : (x : Option Finished) (L : Layout) → LaidOpen L → LaidOpen (laid_out (option_map Places x) L)
open-laid None L is = is
open-laid (Some line) L is = open-put (Places line) (puts (Places line) L) (appended (Places line) L) L is is

-- behind an event of pages that puts something, or nothing
open-paged : (h : PageHistory) (e : LayoutEvent) → LaidOpen (unput (Does e) (layout_of h)) → LaidOpen (layout_of h) → LaidOpen (layout_of (Page e ∷ h))
open-paged h e unput is =
    let L : Layout = layout_of h in
    let x : Happening = Does e in
    open-put x (puts x L) (appended x L) L unput is

-- behind an event that reading means
open-event : (rs : AllRegisters) (h : PageHistory) (e : PageEvent) → MayBe false e → LaidOpen (layout_of h) → LaidOpen (layout_of (told rs e ∷ h))
open-event rs h (Text e) meant is = open-laid (finished (text_of h) e) (layout_of h) is
open-event rs h (Interrupt untold) meant is = is
open-event rs h (Environment number) meant is = is
open-event rs h Back meant is = is
open-event rs h (SetsTrap trap) meant is = is
open-event rs h (Title which) meant is =
    let x : Happening = Titles (placed (title_told rs which) (text_of h) (layout_of h)) in
    open-put x (puts x (layout_of h)) (appended x (layout_of h)) (layout_of h) is is
open-event rs h (Page (Space k)) meant is = open-paged h (Space k) is is
open-event rs h (Page (Need k)) meant is = open-paged h (Need k) is is
open-event rs h (Page (Eject asked)) meant is = open-paged h (Eject asked) is is
open-event rs h (Page (EjectTo asked number)) meant is = open-paged h (EjectTo asked number) is is
open-event rs h (Page (EjectOn asked)) meant is = open-paged h (EjectOn asked) is is
open-event rs h (Page EjectLast) meant is = let wrong : false ≡ true = meant in absurd (cc)
open-event rs h (Page (Length k)) meant is = record { closing = is.closing; over = is.over }
open-event rs h (Page (Number n)) meant is = record { closing = is.closing; over = is.over }
open-event rs h (Page (Offset k)) meant is = record { closing = is.closing; over = is.over }
open-event rs h (Page (Next n)) meant is = record { closing = is.closing; over = is.over }
open-event rs h (Page (NoSpace on)) meant is = record { closing = is.closing; over = is.over }
open-event rs h (Page (Plant trap)) meant is = record { closing = is.closing; over = is.over }
open-event rs h (Page (Uproot place)) meant is = record { closing = is.closing; over = is.over }
open-event rs h (Page (MoveTrap name place)) meant is = record { closing = is.closing; over = is.over }
open-event rs h (Page (RemoveTrap name)) meant is = record { closing = is.closing; over = is.over }
open-event rs h (Page (ListPages first last)) meant is = absurd meant
open-event rs h (Page Begin) meant is = absurd meant
open-event rs h (Page Close) meant is = absurd meant
open-event rs h (Page (DiversionTrap trap)) meant is = record { closing = is.closing; over = is.over }
open-event rs h (Page NoDiversionTrap) meant is = record { closing = is.closing; over = is.over }
open-event rs h (Page (Divert name appends)) meant is = record { closing = is.closing; over = is.over }
open-event rs h (Page EndDivert) meant is = record { closing = is.closing; over = is.over }

-- behind what comes before one
pub open-first : (rs : AllRegisters) (h : PageHistory) (e : PageEvent) (own : Option PageEvent) → ComesBefore h e own
    → MayBe false e → LaidOpen (layout_of h) → LaidOpen (layout_of (told rs (first_of own e) ∷ h))
open-first rs h e own (NothingComes none_begins) meant is = open-event rs h e meant is
open-first rs h e own (FieldEndComes ends none_begins fewer) meant is = open-event rs h (Text FieldEnd) tt is
open-first rs h e own (WordEndComes none_begins fewer) meant is = open-event rs h (Text WordEnd) tt is
open-first rs h e own (PageComes none_begun fewer) meant is = record { closing = is.closing; over = is.over }

-- all events that are to do, or were put back, are among those that requests mean; as a run closes it may be the last page's eject
pub record HasMeant (closing : Bool) (s : State) : Type 0 where
  pub to_do : AllMeant closing s.to_do
  pub ahead : AllMeantAhead closing s.input.ahead

-- a run goes on so until the closing phase, and then the input has ended
pub data Stage (s : State) : Type 0 where
  Goes : HasMeant false s → LaidOpen (layout_of s.history) → Stage s
  Closes : s.phase ≡ Closing → HasEnded s → Stage s

-- in a state of the same tape the source has ended too
HasEnded-same : (s t : State) → t.tape ≡ s.tape → t.is_closed ≡ s.is_closed → HasEnded s → HasEnded t
HasEnded-same s t tape closed (inl is) = inl (closed ∙ is)
HasEnded-same s t tape closed (inr ends) = inr (ap front tape ∙ ends)

-- and gives no more
nothing_given : (s : State) (item : Item) → HasEnded s → s.is_closed ≡ false → front s.tape ≡ Gives item → ⊥
nothing_given s item (inl closed) is_open gives = absurd (cc)
nothing_given s item (inr ends) is_open gives = let wrong : Gives item ≡ Ends Ended = sym gives ∙ ends in absurd (cc)

-- where the last page has ended so has the input
pub ended-over : (s : State) (e : PageEvent) (es : List PageEvent) → s.to_do ≡ e ∷ es → Stage s
    → (layout_of (told s.registers (first_of (next s.history e) e) ∷ s.history)).is_over ≡ true → HasEnded s
ended-over s e es to_do (Goes is opens) over =
    let meant : AreMeant (e ∷ es) = subst (AllMeant false) to_do is.to_do in
    let laid = open-first s.registers s.history e (next s.history e) (comes_before s.history e) meant.0 opens in
    let wrong : true ≡ false = sym over ∙ laid.over in absurd (cc)
ended-over s e es to_do (Closes phase ended) over = ended

-- what is left behind an event, or what comes before it
pub meant-left : (closing : Bool) (own : Option PageEvent) (e : PageEvent) (es : List PageEvent) (s : State) → AllMeant closing (e ∷ es)
    → AllMeant closing (left_behind own e es s)
meant-left closing None e es s meant =
    meant-append closing (left_of s.history (told s.registers e)) es (meant-left_of closing s.registers s.history e (meant.0, tt)) meant.1
meant-left closing (Some own) e es s meant = meant

-- an event was performed, or the run ended
pub meant-performed : (closing : Bool) (l : Limits) (e : PageEvent) (left : List PageEvent) (s t : State) → PerformedOrStopped l e left s t
    → AllMeant closing left → HasMeant closing s → HasMeant closing t
meant-performed closing l e left s t (Performed allowed on none) meant is = record { to_do = meant; ahead = is.ahead }
meant-performed closing l e left s t (Sprang name allowed on some) meant is =
    record { to_do = tt; ahead = ahead-back closing (map put_back left) s.input.ahead (meant-back closing left meant) is.ahead }
meant-performed closing l e left s t (EndsOver allowed over) meant is = record { to_do = is.to_do; ahead = is.ahead }
meant-performed closing l e left s t (StoppedAt limit) meant is = record { to_do = is.to_do; ahead = is.ahead }

goes-performed : (l : Limits) (e : PageEvent) (left : List PageEvent) (s t : State) → PerformedOrStopped l e left s t
    → LaidOpen (layout_of (told s.registers e ∷ s.history)) → LaidOpen (layout_of s.history) → HasMeant false t → Stage t
goes-performed l e left s t (Performed allowed on none) laid before meant = Goes meant laid
goes-performed l e left s t (Sprang name allowed on some) laid before meant = Goes meant laid
goes-performed l e left s t (EndsOver allowed over) laid before meant = Goes meant laid
goes-performed l e left s t (StoppedAt limit) laid before meant = Goes meant before

closes-performed : (l : Limits) (e : PageEvent) (left : List PageEvent) (s t : State) → PerformedOrStopped l e left s t → s.phase ≡ Closing → HasEnded s → Stage t
closes-performed l e left s t (Performed allowed on none) phase ended = Closes phase ended
closes-performed l e left s t (Sprang name allowed on some) phase ended = Closes phase ended
closes-performed l e left s t (EndsOver allowed over) phase ended = Closes phase ended
closes-performed l e left s t (StoppedAt limit) phase ended = Closes phase ended

pub Stage-event : (l : Limits) (e : PageEvent) (es : List PageEvent) (s t : State) → s.to_do ≡ e ∷ es
    → PerformedOrStopped l (first_of (next s.history e) e) (left_behind (next s.history e) e es s) s t → Stage s → Stage t
Stage-event l e es s t to_do done (Goes is opens) =
    let own : Option PageEvent = next s.history e in
    let meant : AreMeant (e ∷ es) = subst (AllMeant false) to_do is.to_do in
    goes-performed l _ _ s t done
    (open-first s.registers s.history e own (comes_before s.history e) meant.0 opens) opens
    (meant-performed false l _ _ s t done (meant-left false own e es s meant) is)
Stage-event l e es s t to_do done (Closes phase ended) = closes-performed l _ _ s t done phase ended

-- what is done with an item
meant-taken : (closing : Bool) (t : Taking) (s : State) → Means s.input.ahead t → HasMeant closing s → HasMeant closing (taken_as t s)
meant-taken closing t s means is = record {
  to_do = meant-append closing t.effect.events s.to_do (all-meant closing t.effect.events (meant-events _ _ means.0)) is.to_do;
  ahead = meant-grown closing s.input.ahead t.input.ahead means.1 is.ahead;
}

-- what is gone back to
meant-returned : (closing : Bool) (reading : LineState) (s : State) → HasMeant closing s → HasMeant closing (going_back_to reading s)
meant-returned closing reading s is = record {
  to_do = going_back-by (λ (es : List PageEvent). AllMeant closing (es ++ s.to_do)) is.to_do (tt, is.to_do) reading;
  ahead = is.ahead;
}

-- with an item ahead of the source
meant-ahead_taken : (closing : Bool) (item : Ahead PageEvent) (behind : List (Ahead PageEvent)) (s : State) → AllMeantAhead closing (item ∷ behind)
    → HasMeant closing s → HasMeant closing (ahead_taken item (record s { input = item_taken item behind s.input }))
meant-ahead_taken closing (ByteAhead b) behind s ahead is =
    let taken : State = record s { input = item_taken (ByteAhead b) behind s.input } in
    meant-taken closing (byte_taking (known taken) s.reading taken.input b) taken (Means-taking (known taken) s.reading taken.input b)
    (record { to_do = is.to_do; ahead = ahead })
meant-ahead_taken closing (FreeAhead b) behind s ahead is =
    let taken : State = record s { input = item_taken (FreeAhead b) behind s.input } in
    meant-taken closing (byte_taking (known taken) s.reading taken.input b) taken (Means-taking (known taken) s.reading taken.input b)
    (record { to_do = is.to_do; ahead = ahead })
meant-ahead_taken closing EndAhead behind s ahead is = record { to_do = is.to_do; ahead = ahead }
meant-ahead_taken closing (ReturnAhead back) behind s ahead is =
    meant-returned closing (behind_return back s.reading) (record s { input = item_taken (ReturnAhead back) behind s.input })
    (record { to_do = is.to_do; ahead = ahead })
meant-ahead_taken closing (DoAhead e) behind s ahead is = record {
  to_do = (ahead.0, tt);
  ahead = meant-grown closing behind _ (ahead-same (ahead-interrupted s.reading (item_taken (DoAhead e) behind s.input))) ahead.1;
}

-- behind what is read of the last macro
pub meant-last_called : (closing : Bool) (s : State) → HasMeant closing s → AllMeantAhead closing (last_called s.registers.last_macro s.input).ahead
meant-last_called closing s is =
    meant-grown closing s.input.ahead (last_called s.registers.last_macro s.input).ahead (ahead-last_called s.registers.last_macro s.input) is.ahead

-- the body of a macro that sprang is put in front
meant-sprung_read : (closing : Bool) (called : Called) (s : State) → HasMeant closing s → HasMeant closing (sprung_read called s)
meant-sprung_read closing (ABody name) s is = record {
  to_do = is.to_do;
  ahead =
      meant-grown closing s.input.ahead _ (ahead-called (called_text (body_named (name_bytes name) s.input)) (back_of s.reading) s.input.ahead) is.ahead;
}
meant-sprung_read closing (ARequest request) s is = record { to_do = is.to_do; ahead = is.ahead }
meant-sprung_read closing Unknown s is = record { to_do = is.to_do; ahead = is.ahead }

-- the input is left
meant-left_in : (closing : Bool) (phase : Phase) (s : State) → HasMeant closing s → HasMeant closing (left_in phase s)
meant-left_in closing Reading s is =
    meant-returned closing (gone_back_to (outermost_back 0 s.input.ahead)) (record s { input = leaving s.input; is_closed = true })
    (record { to_do = is.to_do; ahead = tt })
meant-left_in closing LastMacro s is =
    meant-returned closing (gone_back_to (outermost_back 0 s.input.ahead)) (record s { input = leaving s.input; is_closed = true })
    (record { to_do = is.to_do; ahead = tt })
meant-left_in closing Closing s is = record { to_do = is.to_do; ahead = is.ahead }

-- a phase ended, at a line's beginning, with nothing ahead
pub record HasPassed (s t : State) : Type 0 where
  pub none : s.input.ahead ≡ []
  pub ended : HasEnded s
  pub is : t ≡ phase_ended s.phase s

-- what was read, or a phase ended
pub meant-read : (closing : Bool) (l : Limits) (s t : State) → ReadsOn l s t → HasMeant closing s → HasMeant closing t ⊎ HasPassed s t
meant-read closing l s t (LimitStops limit) is = inl (record { to_do = is.to_do; ahead = is.ahead })
meant-read closing l s t (AheadTaken item behind ahead charge is_made) is =
    inl (meant-ahead_taken closing item behind s (subst (AllMeantAhead closing) ahead is.ahead) is)
meant-read closing l s t (ByteTaken b none is_open gives charge is_made) is =
    let taken : State = moved (record s { input = counting b s.input }) in
    inl (meant-taken closing (byte_taking (known taken) s.reading taken.input b) taken (Means-taking (known taken) s.reading taken.input b)
    (record { to_do = is.to_do; ahead = is.ahead }))
meant-read closing l s t (NoteTaken message is_open gives) is = inl (record { to_do = is.to_do; ahead = is.ahead })
meant-read closing l s t (HalfEnds first others half is_made) is =
    inl (meant-taken closing (escape_ended (known s) s.reading s.input) s (Means-escape_ended (known s) s.reading s.input) is)
meant-read closing l s t (PhaseEnds none half ended unfinished is_made) is = inr (record { none = none; ended = ended; is = refl })
meant-read closing l s t (LineEnds unfinished none ended is_made) is =
    inl (meant-taken closing (end_taking (known s) s.reading s.input) s (Means-end_taking (known s) s.reading s.input) is)
meant-read closing l s t (MessageTold told is_made) is = inl (record { to_do = is.to_do; ahead = is.ahead })
meant-read closing l s t (RunAborts told) is = inl (record { to_do = is.to_do; ahead = is.ahead })
meant-read closing l s t (InputLeft leaves is_made) is = inl (meant-left_in closing s.phase s is)
meant-read closing l s t (SprungRead name sprung is_made) is = inl (meant-sprung_read closing (called_by name s.input.names) s is)
meant-read closing l s t (TextChanged due text is_made) is =
    inl (text-holds (HasMeant closing) due s (λ names texts. record { to_do = is.to_do; ahead = is.ahead }))
meant-read closing l s t (SourceFails is_open fails) is = inl (record { to_do = is.to_do; ahead = is.ahead })
meant-read closing l s t (SourceStops limit is_open stops) is = inl (record { to_do = is.to_do; ahead = is.ahead })

-- nothing happens as something is read
pub history-read : (l : Limits) (s t : State) → ReadsOn l s t → t.history ≡ s.history
history-read l s t (LimitStops limit) = refl
history-read l s t (AheadTaken item behind ahead charge is_made) = (Behind-ahead_taken item (record s { input = item_taken item behind s.input })).history
history-read l s t (ByteTaken b none is_open gives charge is_made) = refl
history-read l s t (NoteTaken message is_open gives) = refl
history-read l s t (HalfEnds first others half is_made) = refl
history-read l s t (PhaseEnds none half ended unfinished is_made) = (Passed-phase_ended s.phase s).history
history-read l s t (LineEnds unfinished none ended is_made) = refl
history-read l s t (MessageTold told is_made) = refl
history-read l s t (RunAborts told) = refl
history-read l s t (InputLeft leaves is_made) = (IsLeft-left_in s.phase s).history
history-read l s t (SprungRead name sprung is_made) = (Behind-sprung_read (called_by name s.input.names) s).history
history-read l s t (TextChanged due text is_made) = text-holds (λ (u : State). u.history ≡ s.history) due s (λ names texts. refl)
history-read l s t (SourceFails is_open fails) = refl
history-read l s t (SourceStops limit is_open stops) = refl

-- a phase ends: behind the last macro the run closes
Stage-phase_ended : (phase : Phase) (s : State) → HasEnded s → HasMeant false s → LaidOpen (layout_of s.history) → Stage (phase_ended phase s)
Stage-phase_ended Reading s ended is opens = Goes (record { to_do = is.to_do; ahead = meant-last_called false s is }) opens
Stage-phase_ended LastMacro s ended is opens = Closes refl ended
Stage-phase_ended Closing s ended is opens = Goes (record { to_do = is.to_do; ahead = is.ahead }) opens

goes-read : (l : Limits) (s t : State) → ReadsOn l s t → HasMeant false s → LaidOpen (layout_of s.history) → Stage t
goes-read l s t reads is opens =
    elim (meant-read false l s t reads is) [
      | inl meant ↦ Goes meant (subst (λ (h : PageHistory). LaidOpen (layout_of h)) (sym (history-read l s t reads)) opens)
      | inr passed ↦ subst Stage (sym passed.is) (Stage-phase_ended s.phase s passed.ended is opens)
    ]

-- a run that closes ends with its phase, and leaves no input
closes-phase_ended : (phase : Phase) (s : State) → phase ≡ Closing → s.phase ≡ Closing → HasEnded s → Stage (phase_ended phase s)
closes-phase_ended Reading s is phase ended = absurd (cc)
closes-phase_ended LastMacro s is phase ended = absurd (cc)
closes-phase_ended Closing s is phase ended = Closes phase ended

closes-left_in : (phase : Phase) (s : State) → phase ≡ Closing → s.phase ≡ Closing → HasEnded s → Stage (left_in phase s)
closes-left_in Reading s is phase ended = absurd (cc)
closes-left_in LastMacro s is phase ended = absurd (cc)
closes-left_in Closing s is phase ended = Closes phase ended

closes-read : (l : Limits) (s t : State) → ReadsOn l s t → s.phase ≡ Closing → HasEnded s → Stage t
closes-read l s t (LimitStops limit) phase ended = Closes phase ended
closes-read l s t (AheadTaken item behind ahead charge is_made) phase ended =
    let taken : State = record s { input = item_taken item behind s.input } in
    let read = Behind-ahead_taken item taken in
    Closes (read.phase ∙ phase) (HasEnded-same s t read.tape read.is_closed ended)
closes-read l s t (ByteTaken b none is_open gives charge is_made) phase ended = absurd (nothing_given s _ ended is_open gives)
closes-read l s t (NoteTaken message is_open gives) phase ended = absurd (nothing_given s _ ended is_open gives)
closes-read l s t (HalfEnds first others half is_made) phase ended = Closes phase ended
closes-read l s t (PhaseEnds none half ends unfinished is_made) phase ended = closes-phase_ended s.phase s phase phase ended
closes-read l s t (LineEnds unfinished none ends is_made) phase ended = Closes phase ended
closes-read l s t (MessageTold told is_made) phase ended = Closes phase ended
closes-read l s t (RunAborts told) phase ended = Closes phase ended
closes-read l s t (InputLeft leaves is_made) phase ended = closes-left_in s.phase s phase phase ended
closes-read l s t (SprungRead name sprung is_made) phase ended =
    let read = Behind-sprung_read (called_by name s.input.names) s in Closes (read.phase ∙ phase) (HasEnded-same s t read.tape read.is_closed ended)
closes-read l s t (TextChanged due text is_made) phase ended = text-holds Stage due s (λ names texts. Closes phase ended)
closes-read l s t (SourceFails is_open fails) phase ended = Closes phase ended
closes-read l s t (SourceStops limit is_open stops) phase ended = Closes phase ended

pub Stage-read : (l : Limits) (s t : State) → ReadsOn l s t → Stage s → Stage t
Stage-read l s t reads (Goes is opens) = goes-read l s t reads is opens
Stage-read l s t reads (Closes phase ended) = closes-read l s t reads phase ended

-- the page's number closes nothing
open-numbered : (n : Option Num) (h : PageHistory) → LaidOpen (layout_of h) → LaidOpen (layout_of (page_numbered n ++ h))
open-numbered None h is = is
open-numbered (Some n) h is = record { closing = is.closing; over = is.over }

-- nor does a register that is given
pub Stage-given : (given : ℕ × Num) (s : State) → Stage s
    → Stage (record s { registers = with_given given s.registers; history = history_given given s.history })
Stage-given given s (Goes is opens) =
    Goes (record { to_do = is.to_do; ahead = is.ahead }) (open-numbered (number_of_page (given.0 ∷ []) given.1) s.history opens)
Stage-given given s (Closes phase ended) = Closes phase ended

-- behind what is given of the pages a run goes on
pub Stage-paged : (start : Start) (tape : Tape) → Stage (paged_state start tape)
Stage-paged start tape =
    Goes (record { to_do = tt; ahead = tt })
    (keeps-given (λ h. LaidOpen (layout_of h)) (λ first last h is. record { closing = is.closing; over = is.over })
    (λ n h is. record { closing = is.closing; over = is.over }) start (record { closing = refl; over = refl }))
