-- The texts in the making of a run are those of its open diversions, and one that is being made.
--
-- Each function f of the run has its lemma Diverts-f here, with a line for each of its cases.
use Rattle.std.proofs.Common.{◌≡◌, ◌⊎◌, inl, inr, ℕ, ◌-◌, Bool, true, false, not, List, [], ◌∷◌, ◌++◌, append-nil, Option, Some, None, refl, sym, ◌∙◌, ap, subst, IsSome, ◌&&◌, if◌then◌else◌, ◌==◌}
use Rattle.input_model.specs.Input.{Ahead, ByteAhead, FreeAhead, EndAhead, ReturnAhead, DoAhead, counting, item_taken, outermost_back}
use Rattle.input_model.specs.Input.Calls.{called_text}
use Rattle.input_model.specs.Input.Names.{body_named}
use Rattle.page_model.specs.DueTexts.{TextDue}
use Rattle.page_model.specs.declared.event.Event.TheVariants.{Break, FieldEnd, WordEnd}
use Rattle.page_model.specs.Happenings.{Does}
use Rattle.page_model.specs.Queries.{takes_text}
use Rattle.page_model.specs.Springs.{goes_on}
use Rattle.page_model.specs.declared.layout_event.LayoutEvent.TheVariants.{Begin, Close, Divert, EjectLast}
use Rattle.roff_num.specs.ShortNames.{name_bytes}
use Rattle.roff_num.specs.declared.limit.Limit.{Limit}
use Rattle.roff_num.specs.declared.limits.Limits.{Limits}
use Rattle.roff_num.specs.declared.short_name.ShortName.{ShortName}
use Rattle.run_model.specs.Environments.{PageHistory}
use Rattle.run_model.specs.Events.Lines.{closing_events}
use Rattle.run_model.specs.Following.{following, text_changed}
use Rattle.run_model.specs.Layouts.{layout_of}
use Rattle.run_model.specs.PageEvents.{PageEvent, PastEvent}
use Rattle.run_model.specs.Reading.{escape_ended, byte_taking}
use Rattle.run_model.specs.Reading.Calls.{called_last, last_called}
use Rattle.run_model.specs.Reading.Ends.{end_taking, is_unfinished}
use Rattle.run_model.specs.Reading.Items.{PageInput, Taking}
use Rattle.run_model.specs.Reading.Returns.{back_of, behind_return, going_back, gone_back_to, line_of}
use Rattle.run_model.specs.Registers.{Known}
use Rattle.run_model.specs.Requests.{called_by}
use Rattle.run_model.specs.Run.{State, ahead_taken, known, left_in, made, moved, performing, phase_ended, sprung_read, step_with, taken_as, text_done, unless_refused}
use Rattle.run_model.specs.Springs.{left_if, page_begin_or}
use Rattle.run_model.specs.Titles.{told}
use Rattle.run_model.specs.declared.event.PageEvent.TheVariants.{Text, Page}
use Rattle.run_model.specs.declared.line_state.LineState.{LineState}
use Rattle.run_model.specs.declared.line_state.LineState.TheVariants.{LineStart, Branch, Braced, Text as InText, Control, Name, Deciding, Skipping, Dropped, Told, Exiting, TitleFront, Title as InTitle, Collecting}
use Rattle.run_model.specs.declared.phase.Phase.{Phase}
use Rattle.run_model.specs.declared.phase.Phase.TheVariants.{Reading, LastMacro, Closing}
use Rattle.run_model.specs.declared.request.Called.{Called}
use Rattle.run_model.specs.declared.request.Called.TheVariants.{Request as ARequest, Body as ABody, Nothing as Unknown}
use Rattle.run_model.proofs.GoingBack.{going_back-by}
use Rattle.run_model.proofs.GrowingAhead.{Grows, ahead-called, ahead-interrupted, ahead-same}
use Rattle.run_model.proofs.ReadEvents.{Means-end_taking, Means-escape_ended, Means-taking}
use Rattle.run_model.proofs.Readings.{ReadsOn, LimitStops, AheadTaken, ByteTaken, NoteTaken, HalfEnds, InputLeft, LineEnds, PhaseEnds, MessageTold, RunAborts, SourceFails, SourceStops, SprungRead, TextChanged}
use Rattle.law_runs.proofs.ComesBefore.{ComesBefore, NothingComes, FieldEndComes, PageComes, WordEndComes}
use Rattle.law_runs.proofs.MeantAhead.{ahead-last_called}
use Rattle.law_runs.proofs.PerformedOrStopped.{PerformedOrStopped, Performed, Sprang, EndsOver, StoppedAt, first_of, left_behind, performed_or_stopped}
use Rattle.law_runs.proofs.TextsChanged.{text-holds}
use Rattle.law_diversions.specs.DivertedTexts.{IsAbove, NoneAbove, OneAbove, diverted_texts, is_making}
use Rattle.law_diversions.proofs.MildEvents.{AreMildAhead, mild-append, mild-back, mild-due, mild-grown, mild-left, needs_of}
use Rattle.law_diversions.proofs.MildRequests.{OpensOne}
use Rattle.law_diversions.proofs.OpenTexts.{above-same}
use Rattle.law_diversions.proofs.TextsBehind.{TextsMove, TextsStay, needs_none, texts-changed, texts-moved}
use Rattle.law_diversions.proofs.TextsLeft.{AreMild}
use Rattle.law_diversions.proofs.TextsRead.{Moves-end_taking, Moves-escape_ended, Moves-taking}
use Rattle.law_diversions.proofs.UnitsMove.{MayDivert, Moves}

-- the texts of a state, by what is due for one
pub record IsDue (s : State) (due : TextDue) : Type 0 where
  pub event : PastEvent
  pub before : PageHistory
  pub history : s.history ≡ event ∷ before
  pub is : (following before event).text ≡ Some due
  pub above : IsAbove (diverted_texts (layout_of before).diversions) (is_making s.reading) s.input.open_texts
  pub none : needs_none due ≡ true → is_making s.reading ≡ false

abbrev pub AreTexts : State → Option TextDue → Type 0
AreTexts s None = IsAbove (diverted_texts (layout_of s.history).diversions) (is_making s.reading) s.input.open_texts
AreTexts s (Some due) = IsDue s due

-- what is to be done: a diversion is opened, and a run closes, where no text is made
pub data IsToDo (making : Bool) (events : List PageEvent) : Type 0 where
  AllMild : AreMild events → IsToDo making events
  OneOpens : making ≡ false → OpensOne events → IsToDo making events
  RunCloses : making ≡ false → events ≡ closing_events → IsToDo making events

-- a state of a run that goes on
pub record Diverts (s : State) : Type 0 where
  pub texts : AreTexts s s.follows.text
  pub to_do : IsToDo (is_making s.reading) s.to_do
  pub ahead : AreMildAhead s.input.ahead

-- or it has ended
abbrev pub DivertsOn : State → Type 0
DivertsOn s = IsSome s.ended ⊎ Diverts s

pub Diverts-unless_refused : (l : Limits) (r : Option Limit) (s done : State) → DivertsOn done → DivertsOn (unless_refused l r s done)
Diverts-unless_refused l None s done diverts = diverts
Diverts-unless_refused l (Some limit) s done diverts = inl refl

-- what is above where none is to be
pub none-made : (making : Bool) (below texts : List (List ℕ)) → IsAbove below making texts
    → (above : List (List ℕ)) × ((texts ≡ below ++ above) × (making ≡ false → above ≡ []))
none-made false below _ NoneAbove = ([], (sym (append-nil below), λ none. refl))
none-made true below _ (OneAbove text) = (text ∷ [], (refl, λ none. absurd (cc)))

above-others : (making : Bool) (below others texts now : List (List ℕ)) → IsAbove below making texts
    → ((above : List (List ℕ)) → texts ≡ below ++ above → (making ≡ false → above ≡ []) → now ≡ others ++ above) → IsAbove others making now
above-others false below others _ now NoneAbove changed =
    subst (IsAbove others false) (sym (changed [] (sym (append-nil below)) (λ none. refl) ∙ append-nil others)) NoneAbove
above-others true below others _ now (OneAbove text) changed =
    subst (IsAbove others true) (sym (changed (text ∷ []) refl (λ none. absurd (cc)))) (OneAbove text)

-- the text has changed
pub above-changed : (s : State) (due : TextDue) → IsDue s due
    → IsAbove (diverted_texts (layout_of s.history).diversions) (is_making s.reading) (text_changed due s.input).open_texts
above-changed s due is =
    let h : PageHistory = is.event ∷ is.before in
    let moved : TextsMove (layout_of is.before).diversions (layout_of h).diversions (Some due) =
    subst (TextsMove (layout_of is.before).diversions (layout_of h).diversions) is.is (texts-moved is.before is.event) in
    subst (λ (h : PageHistory). IsAbove (diverted_texts (layout_of h).diversions) (is_making s.reading)
    (text_changed due s.input).open_texts) (sym is.history)
    (above-others (is_making s.reading) (diverted_texts (layout_of is.before).diversions)
    (diverted_texts (layout_of h).diversions) s.input.open_texts
    (text_changed due s.input).open_texts is.above
    (λ above texts none. texts-changed (layout_of is.before).diversions (layout_of h).diversions due above s.input moved texts
    (λ needs. none (is.none needs))))

pub Diverts-text_done : (s : State) (due : TextDue) → s.follows.text ≡ Some due → Diverts s → Diverts (text_done due s)
Diverts-text_done s due is diverts = record {
  texts = above-changed s due (subst (AreTexts s) is diverts.texts);
  to_do = diverts.to_do;
  ahead = text-holds (λ (t : State). AreMildAhead t.input.ahead) due s (λ names texts. diverts.ahead);
}

-- an event happened
happened-by : (making : Bool) (h : PageHistory) (e : PastEvent) (s : State) (due : Option TextDue) → s.history ≡ e ∷ h
    → is_making s.reading ≡ making
    → (following h e).text ≡ due → TextsMove (layout_of h).diversions (layout_of (e ∷ h)).diversions due
    → IsAbove (diverted_texts (layout_of h).diversions) making s.input.open_texts → (needs_of due ≡ true → making ≡ false) → AreTexts s due
happened-by making h e s None history made is (TextsStay same) above none =
    subst (λ (h : PageHistory). IsAbove (diverted_texts (layout_of h).diversions) (is_making s.reading) s.input.open_texts) (sym history)
    (subst (λ (below : List (List ℕ)). IsAbove below (is_making s.reading) s.input.open_texts) (sym same)
    (subst (λ (c : Bool). IsAbove (diverted_texts (layout_of h).diversions) c s.input.open_texts) (sym made) above))
happened-by making h e s (Some due) history made is move above none = record {
  event = e;
  before = h;
  history = history;
  is = is;
  above = subst (λ (c : Bool). IsAbove (diverted_texts (layout_of h).diversions) c s.input.open_texts) (sym made) above;
  none = λ needs. made ∙ none needs;
}

-- one was performed, and these are left
Diverts-event : (l : Limits) (e : PageEvent) (left : List PageEvent) (s t : State) → PerformedOrStopped l e left s t
    → IsAbove (diverted_texts (layout_of s.history).diversions) (is_making s.reading) s.input.open_texts
    → (needs_of (following s.history (told s.registers e)).text ≡ true → is_making s.reading ≡ false)
    → AreMild left → AreMildAhead s.input.ahead → DivertsOn t
Diverts-event l e left s t (Performed allowed on none) above needs mild ahead =
    let h : PageHistory = s.history in
    let x : PastEvent = told s.registers e in
    inr (record {
      texts = happened-by (is_making s.reading) h x t (following h x).text refl refl refl (texts-moved h x) above needs;
      to_do = AllMild mild;
      ahead = ahead;
    })
Diverts-event l e left s t (Sprang name allowed on some) above needs mild ahead =
    let h : PageHistory = s.history in
    let x : PastEvent = told s.registers e in
    inr (record {
      texts = happened-by (is_making s.reading) h x t (following h x).text refl refl refl (texts-moved h x) above needs;
      to_do = AllMild tt;
      ahead = mild-back left s.input.ahead mild ahead;
    })
Diverts-event l e left s t (EndsOver allowed over) above needs mild ahead = inl refl
Diverts-event l e left s t (StoppedAt limit) above needs mild ahead = inl refl

-- by what comes before it
mild-needs : (due : Option TextDue) (making : Bool) → needs_of due ≡ false → needs_of due ≡ true → making ≡ false
mild-needs due making unneeded needed = let wrong : true ≡ false = sym needed ∙ unneeded in absurd (cc)

pub Diverts-mild : (l : Limits) (own : Option PageEvent) (e : PageEvent) (es : List PageEvent) (s t : State) → ComesBefore s.history e own
    → PerformedOrStopped l (first_of own e) (left_behind own e es s) s t
    → IsAbove (diverted_texts (layout_of s.history).diversions) (is_making s.reading) s.input.open_texts → AreMild (e ∷ es)
    → AreMildAhead s.input.ahead → DivertsOn t
Diverts-mild l own e es s t (NothingComes none_begins) done above mild ahead =
    Diverts-event l e (left_behind None e es s) s t done above
    (mild-needs (following s.history (told s.registers e)).text (is_making s.reading) (mild-due s.registers s.history e mild.0))
    (mild-left s.registers s.history e es mild.0 mild.1) ahead
Diverts-mild l own e es s t (FieldEndComes ends none_begins fewer) done above mild ahead =
    Diverts-event l (Text FieldEnd) (e ∷ es) s t done above
    (mild-needs (following s.history (told s.registers (Text FieldEnd))).text (is_making s.reading)
    (mild-due s.registers s.history (Text FieldEnd) tt)) mild ahead
Diverts-mild l own e es s t (WordEndComes none_begins fewer) done above mild ahead =
    Diverts-event l (Text WordEnd) (e ∷ es) s t done above
    (mild-needs (following s.history (told s.registers (Text WordEnd))).text (is_making s.reading)
    (mild-due s.registers s.history (Text WordEnd) tt)) mild ahead
Diverts-mild l own e es s t (PageComes none_begun fewer) done above mild ahead =
    Diverts-event l (Page Begin) (e ∷ es) s t done above
    (mild-needs (following s.history (told s.registers (Page Begin))).text (is_making s.reading)
    (mild-due s.registers s.history (Page Begin) tt)) mild ahead

-- nothing comes before one that opens a diversion, or closes the run
nothing-first : (takes : Bool) → page_begin_or (not takes && false) None ≡ None
nothing-first true = refl
nothing-first false = refl

pub Diverts-opens : (l : Limits) (s : State) (name : ShortName) (appends : Bool) → is_making s.reading ≡ false
    → IsAbove (diverted_texts (layout_of s.history).diversions) (is_making s.reading) s.input.open_texts → AreMildAhead s.input.ahead
    → DivertsOn (step_with l (Page (Divert name appends) ∷ []) s)
Diverts-opens l s name appends unmade above ahead =
    let e : PageEvent = Page (Divert name appends) in
    subst (λ (own : Option PageEvent). DivertsOn (performing l own e [] s)) (sym (nothing-first (takes_text (layout_of s.history))))
    (Diverts-event l e (left_behind None e [] s) s _ (performed_or_stopped l None e [] s) above (λ needs. unmade)
    (mild-append (left_if (goes_on (Does (Divert name appends)) (layout_of s.history)) (Divert name appends)) [] tt tt) ahead)

pub Diverts-closes : (l : Limits) (s : State) → is_making s.reading ≡ false
    → IsAbove (diverted_texts (layout_of s.history).diversions) (is_making s.reading) s.input.open_texts → AreMildAhead s.input.ahead
    → DivertsOn (step_with l closing_events s)
Diverts-closes l s unmade above ahead =
    let e : PageEvent = Page Close in
    let rest : List PageEvent = Text WordEnd ∷ Text Break ∷ Page EjectLast ∷ [] in
    subst (λ (own : Option PageEvent). DivertsOn (performing l own e rest s)) (sym (nothing-first (takes_text (layout_of s.history))))
    (Diverts-event l e (left_behind None e rest s) s _ (performed_or_stopped l None e rest s) above (λ needs. unmade)
    (tt, (tt, (tt, tt))) ahead)

-- what is done with an item
to_do-meant : (t : Taking) → MayDivert t → IsToDo (is_making t.reading) t.effect.events
to_do-meant t (inl mild) = AllMild mild
to_do-meant t (inr opens) = OneOpens opens.0 opens.1

Diverts-taken : (t : Taking) (s : State) → s.to_do ≡ [] → s.follows.text ≡ None → Moves (diverted_texts (layout_of s.history).diversions) t
    → Grows s.input.ahead t.input.ahead → AreMildAhead s.input.ahead → Diverts (taken_as t s)
Diverts-taken t s idle none moves grows ahead = record {
  texts = subst (AreTexts (taken_as t s)) (sym none) moves.0;
  to_do =
      subst (λ (es : List PageEvent). IsToDo (is_making t.reading) (t.effect.events ++ es)) (sym idle)
      (subst (IsToDo (is_making t.reading)) (sym (append-nil t.effect.events)) (to_do-meant t moves.1));
  ahead = mild-grown s.input.ahead t.input.ahead grows ahead;
}

-- the same above, and nothing to be done
Diverts-still : (s t : State) → t.follows.text ≡ None → t.history ≡ s.history → t.input.open_texts ≡ s.input.open_texts
    → is_making t.reading ≡ is_making s.reading
    → IsAbove (diverted_texts (layout_of s.history).diversions) (is_making s.reading) s.input.open_texts → AreMild t.to_do
    → AreMildAhead t.input.ahead → Diverts t
Diverts-still s t none history texts made above mild ahead = record {
  texts =
      subst (AreTexts t) (sym none)
      (subst (λ (h : PageHistory). IsAbove (diverted_texts (layout_of h).diversions) (is_making t.reading) t.input.open_texts) (sym history)
      (above-same (diverted_texts (layout_of s.history).diversions) (is_making s.reading)
      (is_making t.reading) s.input.open_texts t.input.open_texts above texts made));
  to_do = AllMild mild;
  ahead = ahead;
}

-- what is gone back to makes no text
made-gone_back_to : (back : ℕ) → is_making (gone_back_to back) ≡ false
made-gone_back_to back = by_kind (back == 0) (back == 1) (back == 2)
  where
    by_kind : (start branch braced : Bool)
        → is_making (if start then LineStart else if branch then Branch else if braced then Braced else InText (line_of (back - 3))) ≡ false
    by_kind true branch braced = refl
    by_kind false true braced = refl
    by_kind false false true = refl
    by_kind false false false = refl

made-behind_return : (back : ℕ) (reading : LineState) → is_making (behind_return back reading) ≡ is_making reading
made-behind_return back LineStart = made-gone_back_to back
made-behind_return back Branch = made-gone_back_to back
made-behind_return back Braced = made-gone_back_to back
made-behind_return back (InText line) = made-gone_back_to back
made-behind_return back (Control breaks) = refl
made-behind_return back (Name breaks first) = refl
made-behind_return back (Collecting purpose) = refl
made-behind_return back (Deciding keeps) = refl
made-behind_return back (Skipping opened closed behind) = refl
made-behind_return back Dropped = refl
made-behind_return back (Told aborts) = refl
made-behind_return back Exiting = refl
made-behind_return back TitleFront = refl
made-behind_return back (InTitle delimiter) = refl

mild-going_back : (reading : LineState) (s : State) → s.to_do ≡ [] → AreMild (going_back reading ++ s.to_do)
mild-going_back reading s idle =
    subst (λ (es : List PageEvent). AreMild (going_back reading ++ es)) (sym idle)
    (going_back-by (λ (es : List PageEvent). AreMild (es ++ [])) tt (tt, tt) reading)

-- with an item ahead of the source
Diverts-ahead_taken : (item : Ahead PageEvent) (behind : List (Ahead PageEvent)) (s : State) → AreMildAhead (item ∷ behind) → s.to_do ≡ []
    → s.follows.text ≡ None → IsAbove (diverted_texts (layout_of s.history).diversions) (is_making s.reading) s.input.open_texts
    → Diverts (ahead_taken item (record s { input = item_taken item behind s.input }))
Diverts-ahead_taken (ByteAhead b) behind s ahead idle none above =
    let taken : State = record s { input = item_taken (ByteAhead b) behind s.input } in
    Diverts-taken (byte_taking (known taken) s.reading taken.input b) taken idle none
    (Moves-taking _ (known taken) s.reading taken.input b above)
    (Means-taking (known taken) s.reading taken.input b).1 ahead
Diverts-ahead_taken (FreeAhead b) behind s ahead idle none above =
    let taken : State = record s { input = item_taken (FreeAhead b) behind s.input } in
    Diverts-taken (byte_taking (known taken) s.reading taken.input b) taken idle none
    (Moves-taking _ (known taken) s.reading taken.input b above)
    (Means-taking (known taken) s.reading taken.input b).1 ahead
Diverts-ahead_taken EndAhead behind s ahead idle none above =
    Diverts-still s _ none refl refl refl above (subst AreMild (sym idle) tt) ahead
Diverts-ahead_taken (ReturnAhead back) behind s ahead idle none above =
    Diverts-still s _ none refl refl (made-behind_return back s.reading) above (mild-going_back (behind_return back s.reading) s idle) ahead
Diverts-ahead_taken (DoAhead e) behind s ahead idle none above =
    Diverts-still s _ none refl refl refl above (ahead.0, tt)
    (mild-grown behind _ (ahead-same (ahead-interrupted s.reading (item_taken (DoAhead e) behind s.input))) ahead.1)

-- a phase ends where no text is made
unmade-finished : (phase : Phase) (k : Known) (reading : LineState) → is_unfinished phase k reading ≡ false → is_making reading ≡ false
unmade-finished phase k LineStart is = refl
unmade-finished phase k Braced is = refl
unmade-finished phase k (_) is = absurd (cc)

called_last-texts : (called : Called) (i : PageInput) → (called_last called i).open_texts ≡ i.open_texts
called_last-texts (ABody name) i = refl
called_last-texts (ARequest request) i = refl
called_last-texts Unknown i = refl

last_called-texts : (name : Option ShortName) (i : PageInput) → (last_called name i).open_texts ≡ i.open_texts
last_called-texts None i = refl
last_called-texts (Some name) i = called_last-texts (called_by name i.names) i

Diverts-phase_ended : (phase : Phase) (s : State) → is_making s.reading ≡ false → s.to_do ≡ [] → s.follows.text ≡ None
    → IsAbove (diverted_texts (layout_of s.history).diversions) (is_making s.reading) s.input.open_texts → AreMildAhead s.input.ahead
    → DivertsOn (phase_ended phase s)
Diverts-phase_ended Reading s unmade idle none above ahead =
    inr (Diverts-still s (phase_ended Reading s) none refl (last_called-texts s.registers.last_macro s.input) (sym unmade) above
    (subst AreMild (sym idle) tt)
    (mild-grown s.input.ahead _ (ahead-last_called s.registers.last_macro s.input) ahead))
Diverts-phase_ended LastMacro s unmade idle none above ahead =
    let t : State = phase_ended LastMacro s in
    let below : List (List ℕ) = diverted_texts (layout_of s.history).diversions in
    inr (record {
      texts =
          subst (AreTexts t) (sym none)
          (above-same below (is_making s.reading) false s.input.open_texts s.input.open_texts above refl (sym unmade));
      to_do = RunCloses refl (ap (λ (es : List PageEvent). closing_events ++ es) idle);
      ahead = ahead;
    })
Diverts-phase_ended Closing s unmade idle none above ahead = inl refl

-- the input is left
Diverts-left_in : (phase : Phase) (s : State) → is_making s.reading ≡ false → s.to_do ≡ [] → s.follows.text ≡ None
    → IsAbove (diverted_texts (layout_of s.history).diversions) (is_making s.reading) s.input.open_texts → AreMildAhead s.input.ahead
    → Diverts (left_in phase s)
Diverts-left_in Reading s unmade idle none above ahead =
    let back : ℕ = outermost_back 0 s.input.ahead in
    Diverts-still s _ none refl refl (made-gone_back_to back ∙ sym unmade) above (mild-going_back (gone_back_to back) s idle) tt
Diverts-left_in LastMacro s unmade idle none above ahead =
    let back : ℕ = outermost_back 0 s.input.ahead in
    Diverts-still s _ none refl refl (made-gone_back_to back ∙ sym unmade) above (mild-going_back (gone_back_to back) s idle) tt
Diverts-left_in Closing s unmade idle none above ahead =
    Diverts-still s _ none refl refl (sym unmade) above (subst AreMild (sym idle) tt) ahead

-- the body of a macro that sprang is put in front
Diverts-sprung_read : (called : Called) (s : State) → s.to_do ≡ []
    → IsAbove (diverted_texts (layout_of s.history).diversions) (is_making s.reading) s.input.open_texts → AreMildAhead s.input.ahead
    → Diverts (sprung_read called s)
Diverts-sprung_read (ABody name) s idle above ahead =
    Diverts-still s _ refl refl refl (made-behind_return 0 s.reading) above (subst AreMild (sym idle) tt)
    (mild-grown s.input.ahead _ (ahead-called (called_text (body_named (name_bytes name) s.input)) (back_of s.reading) s.input.ahead) ahead)
Diverts-sprung_read (ARequest request) s idle above ahead = Diverts-still s _ refl refl refl refl above (subst AreMild (sym idle) tt) ahead
Diverts-sprung_read Unknown s idle above ahead = Diverts-still s _ refl refl refl refl above (subst AreMild (sym idle) tt) ahead

-- what was read, or how the run ended
pub Diverts-read : (l : Limits) (s t : State) → ReadsOn l s t → s.to_do ≡ [] → s.follows.text ≡ None
    → IsAbove (diverted_texts (layout_of s.history).diversions) (is_making s.reading) s.input.open_texts → AreMildAhead s.input.ahead
    → DivertsOn t
Diverts-read l s t (LimitStops limit) idle none above ahead = inl refl
Diverts-read l s t (AheadTaken item behind is charge is_made) idle none above ahead =
    inr (Diverts-ahead_taken item behind s (subst AreMildAhead is ahead) idle none above)
Diverts-read l s t (ByteTaken b empty is_open gives charge is_made) idle none above ahead =
    let taken : State = moved (record s { input = counting b s.input }) in
    inr (Diverts-taken (byte_taking (known taken) s.reading taken.input b) taken idle none
    (Moves-taking _ (known taken) s.reading taken.input b above)
    (Means-taking (known taken) s.reading taken.input b).1 ahead)
Diverts-read l s t (NoteTaken message is_open gives) idle none above ahead =
    inr (Diverts-still s t none refl refl refl above (subst AreMild (sym idle) tt) ahead)
Diverts-read l s t (HalfEnds first others half is_made) idle none above ahead =
    inr (Diverts-taken (escape_ended (known s) s.reading s.input) s idle none (Moves-escape_ended _ (known s) s.reading s.input above)
    (Means-escape_ended (known s) s.reading s.input).1 ahead)
Diverts-read l s t (PhaseEnds empty half ended unfinished is_made) idle none above ahead =
    Diverts-phase_ended s.phase s (unmade-finished s.phase (known s) s.reading unfinished) idle none above ahead
Diverts-read l s t (LineEnds unfinished half ended is_made) idle none above ahead =
    inr (Diverts-taken (end_taking (known s) s.reading s.input) s idle none (Moves-end_taking _ (known s) s.reading s.input above)
    (Means-end_taking (known s) s.reading s.input).1 ahead)
Diverts-read l s t (MessageTold told is_made) idle none above ahead =
    inr (Diverts-still s t none refl refl (sym (ap is_making told)) above (subst AreMild (sym idle) tt) ahead)
Diverts-read l s t (RunAborts told) idle none above ahead = inl refl
Diverts-read l s t (InputLeft leaves is_made) idle none above ahead =
    inr (Diverts-left_in s.phase s (ap is_making leaves) idle none above ahead)
Diverts-read l s t (SprungRead name sprung is_made) idle none above ahead =
    inr (Diverts-sprung_read (called_by name s.input.names) s idle above ahead)
Diverts-read l s t (TextChanged due some is_made) idle none above ahead = let wrong : None ≡ Some due = sym none ∙ some in absurd (cc)
Diverts-read l s t (SourceFails is_open fails) idle none above ahead = inl refl
Diverts-read l s t (SourceStops limit is_open stops) idle none above ahead = inl refl
