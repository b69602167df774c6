-- Few events stand in front of a run, and none where a condition that decided is next.
use Rattle.std.proofs.Common.{◌≡◌, inl, inr, Option, Some, None, ◌-◌, ◌≤◌, Bool, true, false, List, [], ◌∷◌, ◌++◌, length, refl, sym, ap, subst, append-nil, ◌∙◌, arith, map}
use Rattle.input_model.specs.Input.{Ahead, putting_all_back}
use Rattle.input_model.specs.Input.Few.{AreFewFrom}
use Rattle.input_model.proofs.FewEvents.{few-behind, few-more}
use Rattle.input_escapes.specs.OpenEscape.{OpenEscape}
use Rattle.run_events.specs.Formatter.Sprung.{most_back}
use Rattle.run_items.specs.Room.{FewFor, SeesOn, decides_next}
use Rattle.run_items.specs.Ending.{input_ends}
use Rattle.run_items.proofs.Room.{back_few}
use Rattle.roff_num.specs.declared.num.Num.{Num}
use Rattle.run_model.specs.PageEvents.{PageEvent}
use Rattle.run_model.specs.Requests.Effects.{page_numbered}
use Rattle.run_model.specs.Reading.{escape_ended}
use Rattle.run_model.specs.Reading.Units.{interrupted}
use Rattle.run_model.specs.Reading.Ends.{end_taking, is_unfinished}
use Rattle.run_model.specs.Reading.Items.{PageInput, Taking}
use Rattle.run_model.specs.Registers.{Known}
use Rattle.run_model.specs.Run.{State, escape_ends, input_ended, known, phase_ended}
use Rattle.run_model.specs.Titles.{put_back}
use Rattle.run_model.specs.declared.line_state.LineState.{LineState}
use Rattle.run_model.specs.declared.line_state.LineState.TheVariants.{Deciding}
use Rattle.run_model.specs.declared.phase.Phase.{Phase}
use Rattle.run_model.specs.declared.phase.Phase.TheVariants.{Closing, LastMacro, Reading}
use Rattle.run_model.proofs.MeantEvents.{MayMean, NoCondition}
use Rattle.run_model.proofs.ReadEvents.{Means-end_taking, Means-escape_ended}
use Rattle.run_model.proofs.KeepingText.{StaysFew}

-- where a condition is read none of these is left
abbrev pub NoneLeft : LineState → List PageEvent → Type 0
NoneLeft reading events = (keeps : Bool) → reading ≡ Deciding keeps → most_back events ≡ 0

numbered-none : (n : Option Num) → most_back (page_numbered n) ≡ 0
numbered-none None = refl
numbered-none (Some n) = refl

pub none-left : (reading : LineState) (events : List PageEvent) → MayMean reading events → NoneLeft reading events
none-left reading events (inl sets) = λ keeps is. ap most_back sets.1 ∙ numbered-none sets.0
none-left reading events (inr told) = λ keeps is. absurd (subst NoCondition is told.0)

-- no event stands in front before an end
pub few-none : (events : List PageEvent) (reading : LineState) (half : List OpenEscape) (items : List (Ahead PageEvent)) → AreFewFrom 0 items → NoneLeft reading events
    → FewFor events reading half items
few-none events reading half items few none = record {
  few = few-more 0 _ items (omega arith) few;
  decided = λ keeps is next. (few, none keeps is);
}

-- nothing stands there
pub few-nothing : (reading : LineState) (i : PageInput) → i.ahead ≡ [] → FewFor [] reading i.escapes i.ahead
few-nothing reading i none = few-none [] reading i.escapes i.ahead (subst (λ (items : List (Ahead PageEvent)). AreFewFrom 0 items) (sym none) tt) (λ keeps is. refl)

-- no condition is read
pub few-over : (events : List PageEvent) (reading : LineState) (half : List OpenEscape) (items : List (Ahead PageEvent)) → AreFewFrom (5 - most_back events) items → NoCondition reading
    → FewFor events reading half items
few-over events reading half items few over = record {
  few = few;
  decided = λ keeps is next. absurd (subst NoCondition is over);
}

-- or none decided
pub few-undecided : (events : List PageEvent) (reading : LineState) (half : List OpenEscape) (items : List (Ahead PageEvent)) → AreFewFrom (5 - most_back events) items → decides_next half ≡ false
    → FewFor events reading half items
few-undecided events reading half items few goes_on = record {
  few = few;
  decided = λ keeps is next. absurd (let wrong : false ≡ true = sym goes_on ∙ next in cc);
}

-- what is seen in front is no event: none stands there before an end
pub few-sees : (reading : LineState) (i : PageInput) → AreFewFrom 5 i.ahead → SeesOn i → FewFor [] reading i.escapes i.ahead
few-sees reading i few sees = record {
  few = few;
  decided = λ keeps is next. (few-behind 5 i.ahead few (sees next), refl);
}

-- what isn't a byte of the line leaves what is half read of a condition
pub few-interrupted : (events : List PageEvent) (reading : LineState) (i : PageInput) → FewFor events reading i.escapes i.ahead → FewFor events reading (interrupted reading i).escapes i.ahead
few-interrupted events reading i few = record {
  few = few.few;
  decided = λ keeps is next. few.decided keeps is (subst (λ (r : LineState). decides_next (interrupted r i).escapes ≡ true) is next);
}

-- with nothing more to do there is room too
pub few-appended : (t : Taking) (items : List (Ahead PageEvent)) → FewFor t.effect.events t.reading t.input.escapes items
    → FewFor (t.effect.events ++ []) t.reading t.input.escapes items
few-appended t items few =
    subst (λ (events : List PageEvent). FewFor events t.reading t.input.escapes items) (sym (append-nil t.effect.events)) few

-- so there is behind a byte, and where something ends before what is seen: no event stands there before an end
pub few-taken : (t : Taking) (items : List (Ahead PageEvent)) → AreFewFrom 0 items → MayMean t.reading t.effect.events
    → FewFor (t.effect.events ++ []) t.reading t.input.escapes items
few-taken t items few means =
    few-appended t items (few-none t.effect.events t.reading t.input.escapes items few (none-left t.reading t.effect.events means))

pub few-seen_ended : (k : Known) (reading : LineState) (i : PageInput) → AreFewFrom 0 i.ahead
    → let t : Taking = escape_ended k reading i in FewFor t.effect.events t.reading t.input.escapes i.ahead
few-seen_ended k reading i few =
    let t : Taking = escape_ended k reading i in
    few-none t.effect.events t.reading t.input.escapes i.ahead few (none-left t.reading t.effect.events (Means-escape_ended k reading i).0)

-- of no events
nothing : (events : List PageEvent) → length events ≤ 0 → events ≡ []
nothing [] none = refl
nothing (e ∷ events) none = absurd (omega (arith, none))

-- these were put back, of events for which there was room
pub few-put_back : (events rest : List PageEvent) (reading : LineState) (half : List OpenEscape) (before : List (Ahead PageEvent)) (i : PageInput)
    → FewFor events reading half before → StaysFew before i.ahead → length rest ≤ most_back events → most_back events ≤ 5
    → FewFor [] reading half (putting_all_back (map put_back rest) i).ahead
few-put_back events rest reading half before i few stays some most = record {
  few = back_few rest (5 - most_back events) i (stays (5 - most_back events) (omega arith) few.few) (omega (arith, some, most));
  decided = λ keeps is next.
      let none = few.decided keeps is next in
      let left : rest ≡ [] = nothing rest (omega (arith, some, none.1)) in
      (subst (λ (events : List PageEvent). AreFewFrom 0 (putting_all_back (map put_back events) i).ahead) (sym left) (stays 0 (omega arith) none.0), refl);
}

-- at the input's end nothing stands in front
module _ (s : State) (idle : s.to_do ≡ []) where
  abbrev EndsFew : State → Type 0
  EndsFew done = NoneLeft done.reading done.to_do

  ends_taking : (t : Taking) → MayMean t.reading t.effect.events → NoneLeft t.reading (t.effect.events ++ s.to_do)
  ends_taking t means =
      subst (λ (more : List PageEvent). NoneLeft t.reading (t.effect.events ++ more)) (sym idle)
      (subst (NoneLeft t.reading) (sym (append-nil t.effect.events)) (none-left t.reading t.effect.events means))

  ends_phase : (phase : Phase) → EndsFew (phase_ended phase s)
  ends_phase Reading = λ keeps is. absurd (cc)
  ends_phase LastMacro = λ keeps is. absurd (cc)
  ends_phase Closing = λ keeps is. ap most_back idle

  ends_line : (unfinished : Bool) → EndsFew (input_ended unfinished s)
  ends_line true = ends_taking (end_taking (known s) s.reading s.input) (Means-end_taking (known s) s.reading s.input).0
  ends_line false = ends_phase s.phase

  ends_half : (half : List OpenEscape)
      → EndsFew (elim half as (λ _. State) [ [] ↦ input_ended (is_unfinished s.phase (known s) s.reading) s | first ∷ others ↦ escape_ends s ])
  ends_half [] = ends_line (is_unfinished s.phase (known s) s.reading)
  ends_half (first ∷ others) = ends_taking (escape_ended (known s) s.reading s.input) (Means-escape_ended (known s) s.reading s.input).0

  pub few-ends : (items : List (Ahead PageEvent)) → items ≡ [] → FewFor (input_ends s).to_do (input_ends s).reading (input_ends s).input.escapes items
  few-ends items none =
      few-none (input_ends s).to_do (input_ends s).reading (input_ends s).input.escapes items (subst (AreFewFrom 0) (sym none) tt) (ends_half s.input.escapes)
