-- Laws over diversions (manual, sections 7.3 and 7.4).
use Rattle.std.specs.Prelude.{◌≡◌, ℕ, ◌≤◌, Bool, true, false, List, [], ◌∷◌, ◌++◌, length, replicate, Some, None, is_some}
use Rattle.input_model.specs.Input.Names.{body_named, calling, texts_of}
use Rattle.page_model.specs.Columns.{printed}
use Rattle.page_model.specs.DeviceText.{device_lines}
use Rattle.page_model.specs.DivertedText.{diverted_lines}
use Rattle.page_model.specs.DueTexts.{TextDue, Ends, bytes_due}
use Rattle.page_model.specs.Happenings.{Happening, Places, is_eject}
use Rattle.page_model.specs.Layout.{Box, Lined, Empty, Diversion}
use Rattle.page_model.specs.Behind.{finished}
use Rattle.page_model.specs.Lines.{Finished}
use Rattle.page_model.specs.Puts.{appended, puts}
use Rattle.page_model.specs.Stops.{is_diverted}
use Rattle.page_model.specs.Turning.{in_diversion}
use Rattle.page_model.specs.declared.event.Event.{Event}
use Rattle.roff_num.specs.ShortNames.{name_bytes}
use Rattle.roff_num.specs.declared.limits.Limits.{Limits}
use Rattle.roff_num.specs.declared.short_name.ShortName.{ShortName}
use Rattle.run_model.specs.Environments.{text_of}
use Rattle.run_model.specs.Following.{following, text_changed}
use Rattle.run_model.specs.Layouts.{happens, layout_of}
use Rattle.run_model.specs.Output.{written}
use Rattle.run_model.specs.PageEvents.{PageEvent, PageHistory, PastEvent}
use Rattle.run_model.specs.Reading.Items.{PageInput}
use Rattle.run_model.specs.Run.{State, initial, step, text_done, told_after}
use Rattle.run_model.specs.Run.Counts.{refusal}
use Rattle.run_model.specs.declared.event.PageEvent.TheVariants.{Text}
use Rattle.run_model.specs.declared.start.Start.{Start}
use Rattle.input_source.specs.Tape.{Tape}
use Rattle.roff_store.specs.TextCalls.{Call, Append, Remove, Rename, Set, text_before}
use Rattle.law_runs.specs.SpringLaws.{happening}
use Rattle.law_diversions.specs.DivertedTexts.{IsAbove, diverted_texts, is_making}

-- no more diversions are open than the limit says
abbrev pub NoMoreDiversionsAreOpen : Type 0
NoMoreDiversionsAreOpen =
    (l : Limits) (start : Start) (tape : Tape) (n : ℕ)
    → length (layout_of (told_after l n (initial l start tape)).history).diversions ≤ l.diversions

-- the texts in the making of this input are those of the diversions that are open in a state, and above them one of a string or a
-- macro, just where one is being made
abbrev pub HasDivertedTexts : State → PageInput → Type 0
HasDivertedTexts s i = IsAbove (diverted_texts (layout_of s.history).diversions) (is_making s.reading) i.open_texts

-- So it is in each state of a run that goes on, where no text is to change.
abbrev pub TextsAreDivertedLines : Type 0
TextsAreDivertedLines =
    (l : Limits) (start : Start) (tape : Tape) (n : ℕ) →
    let s : State = told_after l n (initial l start tape) in
    s.ended ≡ None → s.follows.text ≡ None → HasDivertedTexts s s.input

-- And where one is, so it is behind that.
abbrev pub TextsBecomeDivertedLines : Type 0
TextsBecomeDivertedLines =
    (l : Limits) (start : Start) (tape : Tape) (n : ℕ) (due : TextDue) →
    let s : State = told_after l n (initial l start tape) in
    s.ended ≡ None → s.follows.text ≡ Some due → HasDivertedTexts s (text_changed due s.input)

-- The diversion that was the innermost one before the last event has ended with it, and its text is to be entered: then the body of its
-- name is what that had, if it appends, and behind that its boxes, as lines of input. Those around it stay open.
pub record EndsDiversion (s : State) (index : ℕ) (name : ShortName) (appends : Bool) : Type 0 where
  pub event : PastEvent
  pub before : PageHistory
  pub history : s.history ≡ event ∷ before
  pub diversion : Diversion
  pub outer : List Diversion
  pub was_open : (layout_of before).diversions ≡ diversion ∷ outer
  pub are_open : (layout_of s.history).diversions ≡ outer
  pub name_is : diversion.name ≡ name
  pub appends_is : diversion.appends ≡ appends
  pub body : body_named (name_bytes name) (text_done (Ends index name appends) s).input
      ≡ text_before appends (name_bytes name) (texts_of s.input) ++ diverted_lines diversion.boxes

-- each text of a run that is entered is such
abbrev pub EndedDiversionsAreEntered : Type 0
EndedDiversionsAreEntered =
    (l : Limits) (start : Start) (tape : Tape) (n index : ℕ) (name : ShortName) (appends : Bool) →
    let s : State = told_after l n (initial l start tape) in
    s.ended ≡ None → s.follows.text ≡ Some (Ends index name appends) → EndsDiversion s index name appends

-- whether a call changes what names stand for, and nothing else
abbrev pub is_of_names : Call → Bool
is_of_names (Set name entry) = true
is_of_names (Append name bytes) = true
is_of_names (Remove name) = true
is_of_names (Rename from to) = true
is_of_names (_) = false

-- such a one leaves the texts in the making: that of a diversion too whose name goes, or gets another body, while it is open
abbrev pub NamesLeaveTexts : Type 0
NamesLeaveTexts = (call : Call) (i : PageInput) → is_of_names call ≡ true → (calling call i).open_texts ≡ i.open_texts

-- What happens is put in the innermost of the open diversions: its boxes stand there, and their lines are put behind its text, if there
-- are some. Nothing is written; the page has the boxes that it had, and neither ends nor is another one begun.
pub record IsPutInDiversion (h : PageHistory) (e : PastEvent) (x : Happening) (d : Diversion) (ds : List Diversion) : Type 0 where
  pub boxes : (layout_of (e ∷ h)).diversions ≡ in_diversion (appended x (layout_of h)) d ∷ ds
  pub text : (following h e).text ≡ bytes_due (d ∷ ds) (diverted_lines (appended x (layout_of h)))
  pub written_is : written (e ∷ h) ≡ written h
  pub page : (layout_of (e ∷ h)).boxes ≡ (layout_of h).boxes
  pub begun : (layout_of (e ∷ h)).begun ≡ (layout_of h).begun
  pub over : (layout_of (e ∷ h)).is_over ≡ (layout_of h).is_over

-- so is all that puts something and is no eject, where a diversion is open
abbrev pub OpenDiversionsTakeAll : Type 0
OpenDiversionsTakeAll =
    (h : PageHistory) (e : PastEvent) (x : Happening) (d : Diversion) (ds : List Diversion) → happens h e ≡ Some x
    → is_some (puts x (layout_of h)) ≡ true → is_eject x ≡ false → (layout_of h).diversions ≡ d ∷ ds → IsPutInDiversion h e x d ds

-- What happens is put on the page: its boxes stand there unless that ends with it, and are written if it is one that is. No text of a
-- diversion changes.
pub record IsPutOnPage (h : PageHistory) (e : PastEvent) (x : Happening) : Type 0 where
  pub boxes : (layout_of (e ∷ h)).begun ≡ (layout_of h).begun → (layout_of (e ∷ h)).is_over ≡ false
      → (layout_of (e ∷ h)).boxes ≡ appended x (layout_of h) ++ (layout_of h).boxes
  pub written_is : (layout_of h).is_listed ≡ true
      → written (e ∷ h) ≡ written h ++ device_lines (layout_of h).offset (appended x (layout_of h))
  pub diversions : (layout_of (e ∷ h)).diversions ≡ (layout_of h).diversions
  pub text : (following h e).text ≡ None

-- so are ejects, and all else where none is open
abbrev pub ThePageTakesTheRest : Type 0
ThePageTakesTheRest =
    (h : PageHistory) (e : PastEvent) (x : Happening) → happens h e ≡ Some x → is_some (puts x (layout_of h)) ≡ true
    → is_diverted x (layout_of h) ≡ false → IsPutOnPage h e x

-- the boxes of a line: its text, and blank lines behind it
abbrev pub AreOfLine : Finished → List Box → Type 0
AreOfLine line boxes = (blanks : ℕ) × (boxes ≡ replicate blanks Empty ++ Lined (printed line) ∷ [])

-- A line belongs to the innermost diversion that is open at the event that finishes it, and to the page where none is, wherever its
-- words were read.
abbrev pub LinesGoWhereTheyAreFinished : Type 0
LinesGoWhereTheyAreFinished =
    (h : PageHistory) (e : Event) (line : Finished) → finished (text_of h) e ≡ Some line →
    let x : Happening = Places line in
    AreOfLine line (appended x (layout_of h))
    × (((d : Diversion) (ds : List Diversion) → (layout_of h).diversions ≡ d ∷ ds → IsPutInDiversion h (Text e) x d ds)
    × ((layout_of h).diversions ≡ [] → IsPutOnPage h (Text e) x))

-- in a state an event is performed: it is the first of those that are to be done, no text is to change first, and no limit refuses it
pub record Performs (l : Limits) (s : State) (e : PageEvent) (rest : List PageEvent) : Type 0 where
  pub going : s.ended ≡ None
  pub no_text : s.follows.text ≡ None
  pub first : s.to_do ≡ e ∷ rest
  pub allowed : refusal l s.history (happening e s) ≡ None

-- behind the step it has happened, or what comes before it; and what follows it is to be done, unless the run is done
pub record HasHappened (e : PastEvent) (s t : State) : Type 0 where
  pub history : t.history ≡ e ∷ s.history
  pub follows : t.ended ≡ None → t.follows ≡ following s.history e

abbrev pub PerformedEventsHappen : Type 0
PerformedEventsHappen =
    (l : Limits) (s : State) (e : PageEvent) (rest : List PageEvent) → Performs l s e rest → HasHappened (happening e s) s (step l s)
