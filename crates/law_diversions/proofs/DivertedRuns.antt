-- In each state of a run the texts in the making are those of its open diversions, and one that is being made; and what is entered of them.
use Rattle.std.proofs.Common.{◌≡◌, inl, inr, ℕ, zero, suc, false, Bool, List, [], ◌∷◌, ◌++◌, length, Option, Some, None, arith, refl, sym, ◌∙◌, ap, subst}
use Rattle.input_model.specs.Input.Names.{body_named, entering_open, texts_of}
use Rattle.page_model.specs.DivertedText.{diverted_lines}
use Rattle.page_model.specs.DueTexts.{TextDue, Ends}
use Rattle.page_model.specs.Layout.{Diversion}
use Rattle.roff_num.specs.ShortNames.{name_bytes}
use Rattle.roff_num.specs.declared.limits.Limits.{Limits}
use Rattle.roff_num.specs.declared.num.Num.{Num}
use Rattle.roff_num.specs.declared.short_name.ShortName.{ShortName}
use Rattle.input_source.specs.Tape.{Tape}
use Rattle.run_model.specs.Environments.{PageHistory}
use Rattle.run_model.specs.Layouts.{layout_of}
use Rattle.run_model.specs.PageEvents.{PageEvent}
use Rattle.run_model.specs.Reading.Items.{PageInput}
use Rattle.run_model.specs.Requests.Effects.{page_numbered}
use Rattle.run_model.specs.Requests.Numbering.{number_of_page}
use Rattle.run_model.specs.Run.{State, grown, initial, paged_state, step, step_behind, step_with, text_done, told_after, told_step, with_registers}
use Rattle.run_model.specs.Run.Counts.{first_passed, names_counted}
use Rattle.run_model.specs.Springs.{next}
use Rattle.run_model.specs.Starts.{history_given, with_given}
use Rattle.run_model.specs.declared.start.Start.{Start}
use Rattle.roff_store.specs.TextCalls.{Append, Remove, Rename, Set, open_text, text_before}
use Rattle.roff_store.specs.Named.{Named, entry_of, with_entry}
use Rattle.roff_store.specs.Texts.{Body, Entry, body_if_any}
use Rattle.roff_store.proofs.Entries.{bytes_eq_tells, entry_of-with_entry}
use Rattle.run_model.proofs.GivenPages.{keeps-given}
use Rattle.run_model.proofs.Readings.{ReadsOn-with_sprung}
use Rattle.law_runs.proofs.ComesBefore.{comes_before}
use Rattle.law_runs.proofs.Ended.{ended_or_not, not-ended, step-ended, step-going}
use Rattle.law_runs.proofs.PerformedOrStopped.{performed_or_stopped}
use Rattle.law_runs.proofs.Told.{told_step-holds}
use Rattle.law_diversions.specs.DivertedTexts.{IsAbove, NoneAbove, diverted_texts, is_making}
use Rattle.law_diversions.specs.DiversionLaws.{EndedDiversionsAreEntered, EndsDiversion, NamesLeaveTexts, TextsAreDivertedLines, TextsBecomeDivertedLines}
use Rattle.law_diversions.proofs.RunsDivert.{AllMild, AreTexts, Diverts, DivertsOn, Diverts-closes, Diverts-mild, Diverts-opens, Diverts-read, Diverts-text_done, Diverts-unless_refused, IsDue, IsToDo, OneOpens, RunCloses, above-changed, none-made}
use Rattle.law_diversions.proofs.MildEvents.{AreMildAhead}
use Rattle.law_diversions.proofs.TextsBehind.{OneEnds, TextsMove, entered-one, text-entered, texts-moved}

-- a step of a run that hasn't ended
Diverts-step_with : (l : Limits) (es : List PageEvent) (s : State) → s.to_do ≡ es → s.follows.text ≡ None → Diverts s
    → IsToDo (is_making s.reading) es
    → DivertsOn (step_with l es s)
Diverts-step_with l [] s idle none diverts to_do =
    Diverts-read l s _ (ReadsOn-with_sprung l s.follows.sprung s refl) idle none (subst (AreTexts s) none diverts.texts) diverts.ahead
Diverts-step_with l (e ∷ es) s is none diverts (AllMild mild) =
    let own : Option PageEvent = next s.history e in
    Diverts-mild l own e es s _ (comes_before s.history e) (performed_or_stopped l own e es s)
    (subst (AreTexts s) none diverts.texts) mild diverts.ahead
Diverts-step_with l (e ∷ es) s is none diverts (OneOpens unmade opens) =
    subst (λ (all : List PageEvent). DivertsOn (step_with l all s)) (sym opens.1.1)
    (Diverts-opens l s opens.0 opens.1.0 unmade (subst (AreTexts s) none diverts.texts) diverts.ahead)
Diverts-step_with l (e ∷ es) s is none diverts (RunCloses unmade closes) =
    subst (λ (all : List PageEvent). DivertsOn (step_with l all s)) (sym closes)
    (Diverts-closes l s unmade (subst (AreTexts s) none diverts.texts) diverts.ahead)

-- the text of a diversion changes first, if one does
Diverts-step_behind : (l : Limits) (due : Option TextDue) (s : State) → s.follows.text ≡ due → Diverts s → DivertsOn (step_behind l due s)
Diverts-step_behind l None s none diverts = Diverts-step_with l s.to_do s refl none diverts diverts.to_do
Diverts-step_behind l (Some due) s some diverts =
    Diverts-unless_refused l (first_passed l (grown (text_done due s))) s (text_done due s) (inr (Diverts-text_done s due some diverts))

-- a step
Diverts-step : (l : Limits) (s : State) → DivertsOn s → DivertsOn (step l s)
Diverts-step l s (inl ended) = subst DivertsOn (sym (step-ended l s ended)) (inl ended)
Diverts-step l s (inr diverts) =
    elim (ended_or_not s.ended) [
      | inl ended ↦ subst DivertsOn (sym (step-ended l s ended)) (inr diverts)
      | inr going ↦ subst DivertsOn (sym (step-going l s going)) (Diverts-step_behind l s.follows.text s refl diverts)
    ]

Diverts-told_after : (l : Limits) (n : ℕ) (s : State) → DivertsOn s → DivertsOn (told_after l n s)
Diverts-told_after l zero s diverts = diverts
Diverts-told_after l (suc n) s diverts =
    Diverts-told_after l n (told_step l s) (told_step-holds DivertsOn l s (Diverts-step l s diverts) (λ going. inl refl))

-- what is given opens no diversion
Diverts-given : (l : Limits) (given : List (ℕ × Num)) (s : State) → s.follows.text ≡ None → s.to_do ≡ [] → s.input.ahead ≡ []
    → s.input.open_texts ≡ []
    → is_making s.reading ≡ false → (layout_of s.history).diversions ≡ [] → DivertsOn (with_registers l given s)
Diverts-given l [] s none idle empty texts unmade closed = inr (record {
  texts =
      subst (AreTexts s) (sym none)
      (subst (λ (ds : List Diversion). IsAbove (diverted_texts ds) (is_making s.reading) s.input.open_texts) (sym closed)
      (subst (λ (c : Bool). IsAbove [] c s.input.open_texts) (sym unmade) (subst (IsAbove [] false) (sym texts) NoneAbove)));
  to_do = subst (IsToDo (is_making s.reading)) (sym idle) (AllMild tt);
  ahead = subst (AreMildAhead) (sym empty) tt;
})
Diverts-given l (first ∷ others) s none idle empty texts unmade closed =
    let behind : State = record s { registers = with_given first s.registers; history = history_given first s.history } in
    Diverts-unless_refused l (first_passed l (names_counted behind.registers)) s _
    (Diverts-given l others behind none idle empty texts unmade (closed-numbered (number_of_page (first.0 ∷ []) first.1) s.history closed))
  where
    closed-numbered : (n : Option Num) (h : PageHistory) → (layout_of h).diversions ≡ []
        → (layout_of (page_numbered n ++ h)).diversions ≡ []
    closed-numbered None h closed = closed
    closed-numbered (Some n) h closed = closed

diverts-run : (l : Limits) (start : Start) (tape : Tape) (n : ℕ) → DivertsOn (told_after l n (initial l start tape))
diverts-run l start tape n =
    Diverts-told_after l n (initial l start tape)
    (Diverts-given l start.registers.items (paged_state start tape) refl refl refl refl refl
    (keeps-given (λ (h : PageHistory). (layout_of h).diversions ≡ []) (λ first last h is. is) (λ n h is. is) start refl))

-- of one that goes on
going : (s : State) → s.ended ≡ None → DivertsOn s → Diverts s
going s on (inl ended) = absurd (not-ended s.ended on ended)
going s on (inr diverts) = diverts

pub texts_are_diverted_lines : TextsAreDivertedLines
texts_are_diverted_lines l start tape n on none =
    let s : State = told_after l n (initial l start tape) in subst (AreTexts s) none (going s on (diverts-run l start tape n)).texts

due-run : (l : Limits) (start : Start) (tape : Tape) (n : ℕ) (due : TextDue)
    → let s : State = told_after l n (initial l start tape) in s.ended ≡ None → s.follows.text ≡ Some due → IsDue s due
due-run l start tape n due on some =
    let s : State = told_after l n (initial l start tape) in subst (AreTexts s) some (going s on (diverts-run l start tape n)).texts

pub texts_become_diverted_lines : TextsBecomeDivertedLines
texts_become_diverted_lines l start tape n due on some =
    above-changed (told_after l n (initial l start tape)) due (due-run l start tape n due on some)

-- names alone
pub names_leave_texts : NamesLeaveTexts
names_leave_texts (Set name entry) i is = refl
names_leave_texts (Append name bytes) i is = refl
names_leave_texts (Remove name) i is = refl
names_leave_texts (Rename from to) i is = refl
names_leave_texts (_) i is = absurd (cc)

-- a name that has just got a body
body-there : (name : List ℕ) (bytes : List ℕ) (entries : Named Entry)
    → body_if_any (entry_of name (with_entry name (Body bytes) entries)) ≡ bytes
body-there name bytes entries =
    let there : entry_of name (with_entry name (Body bytes) entries) ≡ Some (Body bytes) =
    let has = entry_of-with_entry name name (Body bytes) entries in grind (arith, bytes_eq_tells) in
    ap body_if_any there

-- what is entered of the diversion that ended
entered-body : (d : Diversion) (outer : List Diversion) (name : ShortName) (appends : Bool) (above : List (List ℕ)) (i : PageInput)
    → i.open_texts ≡ diverted_texts (d ∷ outer) ++ above
    → body_named (name_bytes name) (entering_open (length outer) (name_bytes name) appends i)
    ≡ text_before appends (name_bytes name) (texts_of i) ++ diverted_lines d.boxes
entered-body d outer name appends above i is =
    let n : ℕ = length (diverted_texts outer) in
    let before : List ℕ = text_before appends (name_bytes name) (texts_of i) in
    ap (λ (j : PageInput). body_named (name_bytes name) j) (entered-one outer d above (name_bytes name) appends i is)
    ∙ body-there (name_bytes name) (before ++ open_text n (texts_of i)) i.names
    ∙ ap (λ (text : List ℕ). before ++ text) (text-entered outer d above i is)

entered-by : (s : State) (index : ℕ) (name : ShortName) (appends : Bool) (due : IsDue s (Ends index name appends))
    (before after : List Diversion)
    → (layout_of due.before).diversions ≡ before → (layout_of (due.event ∷ due.before)).diversions ≡ after
    → TextsMove before after (Some (Ends index name appends)) → EndsDiversion s index name appends
entered-by s index name appends due before after was now (OneEnds d _ _ _ is at named appending) =
    let made = none-made (is_making s.reading) (diverted_texts (layout_of due.before).diversions) s.input.open_texts due.above in
    let there : s.input.open_texts ≡ diverted_texts (d ∷ after) ++ made.0 =
    made.1.0 ∙ ap (λ (ds : List Diversion). diverted_texts ds ++ made.0) (was ∙ is) in record {
      event = due.event;
      before = due.before;
      history = due.history;
      diversion = d;
      outer = after;
      was_open = was ∙ is;
      are_open = ap (λ (h : PageHistory). (layout_of h).diversions) due.history ∙ now;
      name_is = named;
      appends_is = appending;
      body =
          ap (λ (n : ℕ). body_named (name_bytes name) (entering_open n (name_bytes name) appends s.input)) at
          ∙ entered-body d after name appends made.0 s.input there;
    }

pub ended_diversions_are_entered : EndedDiversionsAreEntered
ended_diversions_are_entered l start tape n index name appends on some =
    let s : State = told_after l n (initial l start tape) in
    let due : IsDue s (Ends index name appends) = due-run l start tape n (Ends index name appends) on some in
    entered-by s index name appends due (layout_of due.before).diversions (layout_of (due.event ∷ due.before)).diversions refl refl
    (subst (TextsMove (layout_of due.before).diversions (layout_of (due.event ∷ due.before)).diversions) due.is
    (texts-moved due.before due.event))
