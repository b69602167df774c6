-- Laws over macros that spring, and over the input-line trap (manual, section 7.5).
use Rattle.std.specs.Prelude.{◌≡◌, ◌≢◌, ℕ, suc, ◌-◌, ◌<◌, ◌≤◌, true, false, List, [], ◌∷◌, ◌++◌, map, Option, Some, None}
use Rattle.page_model.specs.declared.event.Event.TheVariants.{Count}
use Rattle.roff_num.specs.ShortNames.{name_bytes}
use Rattle.roff_num.specs.declared.limits.Limits.{Limits}
use Rattle.roff_num.specs.declared.short_name.ShortName.{ShortName}
use Rattle.input_model.specs.Input.{Ahead, ByteAhead, ReturnAhead, DoAhead, item_taken}
use Rattle.input_model.specs.Input.Calls.{called_text}
use Rattle.input_model.specs.Input.Names.{body_named}
use Rattle.run_model.specs.Environments.{PageHistory, environments}
use Rattle.run_model.specs.ItemsTaken.{TakesItems}
use Rattle.run_model.specs.Layouts.{layout_of}
use Rattle.run_model.specs.Reading.Returns.{back_of, in_sprung}
use Rattle.run_model.specs.Requests.{called_by}
use Rattle.run_model.specs.Run.{State, nothing_follows, only_sprung, after, grown, made, going_back_to, step}
use Rattle.run_model.specs.Run.Counts.{first_passed, refusal}
use Rattle.run_model.specs.Springs.{left_of, next, springs}
use Rattle.run_model.specs.declared.environment_number.EnvironmentNumber.{EnvironmentNumber}
use Rattle.run_model.specs.declared.event.InputTrap.{InputTrap}
use Rattle.run_model.specs.PageEvents.{PageEvent, PastEvent}
use Rattle.run_model.specs.Titles.{keeping, put_back, told}
use Rattle.run_model.specs.declared.event.PageEvent.TheVariants.{Text, InputTrap as SetsTrap}
use Rattle.run_model.specs.declared.line_state.LineState.{LineState}
use Rattle.run_model.specs.declared.line_state.LineState.TheVariants.{LineStart, Branch, Braced, Text as InText}
use Rattle.run_model.specs.declared.request.Called.TheVariants.{Body as ABody, Nothing as Unknown}
use Rattle.law_runs.specs.EnvironmentLaws.{environment_of}
use Rattle.page_model.specs.DueTexts.{TextDue}
use Rattle.run_model.specs.Following.{following, text_changed}
use Rattle.run_model.specs.Reading.Items.{PageInput}

-- the event that is performed where one is the first to be done, told what comes before it
abbrev pub first_of : Option PageEvent → PageEvent → PageEvent
first_of None e = e
first_of (Some own) e = own

-- what is left behind it: of an eject that it goes on, and the others; or the event before which another one came
abbrev pub left_behind : Option PageEvent → PageEvent → List PageEvent → State → List PageEvent
left_behind None e rest s = left_of s.history (told s.registers e) ++ rest
left_behind (Some own) e rest s = e ∷ rest

-- the event that is performed in a state, as it happens
abbrev pub happening : PageEvent → State → PastEvent
happening e s = told s.registers (first_of (next s.history e) e)

-- an event springs a macro, or what comes before it does: it is what is done first, as no text of a diversion is to change, no limit
-- refuses what happens, and the last page doesn't end with it
pub record Springs (l : Limits) (s : State) (e : PageEvent) (rest : List PageEvent) (name : ShortName) : Type 0 where
  pub going : s.ended ≡ None
  pub no_text : s.follows.text ≡ None
  pub first : s.to_do ≡ e ∷ rest
  pub allowed : refusal l s.history (happening e s) ≡ None
  pub goes_on : (layout_of (happening e s ∷ s.history)).is_over ≡ false
  pub sprung : springs s.history (happening e s) ≡ Some name

-- the state behind it, with what is left put back: a title among it is kept
abbrev pub with_rest_back : PageEvent → List PageEvent → State → State
with_rest_back e rest s =
    let left : List PageEvent = left_behind (next s.history e) e rest s in
    record s {
      to_do = [];
      history = happening e s ∷ s.history;
      registers = keeping left s.registers;
      input = record s.input { ahead = map DoAhead (map put_back left) ++ s.input.ahead };
    }

-- what becomes of the texts of diversions with the event, if something does: that is done first
abbrev pub text_with : PageEvent → State → Option TextDue
text_with e s = (following s.history (happening e s)).text

-- the input behind that
abbrev pub input_with : Option TextDue → PageInput → PageInput
input_with None i = i
input_with (Some due) i = text_changed due i

-- the state in which the macro is to be read
abbrev pub before_macro : PageEvent → List PageEvent → ShortName → State → State
before_macro e rest name s =
    let behind : State = with_rest_back e rest s in
    record behind { follows = only_sprung (Some name); input = input_with (text_with e s) behind.input }

-- no limit refuses the change of a text, if one changes
abbrev pub IsAllowedText : Limits → Option TextDue → State → Type 0
IsAllowedText l None s = Unit {0}
IsAllowedText l (Some due) s = first_passed l (grown s) ≡ None

-- how many steps lead from behind the event to behind the macro's reading: one, and one more where a text changes
abbrev pub steps_to_macro : Option TextDue → ℕ
steps_to_macro None = 1
steps_to_macro (Some due) = 2

-- Its body comes to stand in front, an end behind it that leads back to what was read, and behind that what is left of the events.
-- That takes two steps, or three where the event changes the text of a diversion too, and costs nothing. No arguments are in force in
-- it.
abbrev pub MacrosAreReadFirst : Type 0
MacrosAreReadFirst =
    (l : Limits) (s : State) (e : PageEvent) (rest : List PageEvent) (name : ShortName) → Springs l s e rest name →
    let before : State = before_macro e rest name s in
    IsAllowedText l (text_with e s) before → called_by name before.input.names ≡ ABody name →
    after l (suc (steps_to_macro (text_with e s))) s ≡ made l before (record before {
      follows = nothing_follows;
      reading = in_sprung s.reading;
      input = record before.input {
        ahead =
            map ByteAhead (called_text (body_named (name_bytes name) before.input)) ++ ReturnAhead (back_of s.reading) ∷ before.input.ahead;
        calls = [] ∷ before.input.calls;
      };
    })

-- a name that has no body springs nothing that is read: the rest of the events is put back, and no end stands there
abbrev pub NamesWithoutABodyReadNothing : Type 0
NamesWithoutABodyReadNothing =
    (l : Limits) (s : State) (e : PageEvent) (rest : List PageEvent) (name : ShortName) → Springs l s e rest name →
    let before : State = before_macro e rest name s in
    IsAllowedText l (text_with e s) before → called_by name before.input.names ≡ Unknown →
    after l (suc (steps_to_macro (text_with e s))) s ≡ made l before (record before { follows = nothing_follows })

-- what is read where an event may spring a macro, but for control lines: of a text line no blanks are left to be told behind a
-- glyph, and in front of it one at the most
abbrev pub MayBeInterrupted : LineState → Type 0
MayBeInterrupted LineStart = Unit {0}
MayBeInterrupted Branch = Unit {0}
MayBeInterrupted Braced = Unit {0}
MayBeInterrupted (InText line) = (line.leading ≤ 1) × (line.has_glyph ≡ true → line.leading ≡ 0)
MayBeInterrupted (_) = ⊥

-- behind the end of a macro that sprang where this was read, it is read on as it was: a text line is the one that goes on, and not one
-- that the macro's text interrupted
abbrev pub LinesGoOnAsTheyWere : Type 0
LinesGoOnAsTheyWere =
    (l : Limits) (s : State) (reading : LineState) (behind : List (Ahead PageEvent)) → TakesItems s → MayBeInterrupted reading
    → s.reading ≡ LineStart → s.input.escapes ≡ [] → s.input.ahead ≡ ReturnAhead (back_of reading) ∷ behind → s.input.charge < l.bytes
    → step l s ≡ made l s (going_back_to reading (record s { input = item_taken (ReturnAhead (back_of reading)) behind s.input }))

-- a text line is the last that the trap of its environment waits for, and springs its macro; behind it there is no trap
abbrev pub TheLastLineSprings : Type 0
TheLastLineSprings =
    (h : PageHistory) (name : ShortName) →
    (environments h).in_force.input_trap ≡ Some (record { lines = 1; name = name }) →
    (springs h (Text Count) ≡ Some name) × ((environments (Text Count ∷ h)).in_force.input_trap ≡ None)

-- before that it springs nothing, and one line fewer is waited for
abbrev pub EachLineCounts : Type 0
EachLineCounts =
    (h : PageHistory) (trap : InputTrap) → 1 < trap.lines →
    (environments h).in_force.input_trap ≡ Some trap →
    (springs h (Text Count) ≡ None)
    × ((environments (Text Count ∷ h)).in_force.input_trap ≡ Some (record trap { lines = trap.lines - 1 }))

-- a line counts for the trap of the environment in force alone, and so is one set
abbrev pub OthersKeepTheirTraps : Type 0
OthersKeepTheirTraps =
    (h : PageHistory) (number : EnvironmentNumber) (trap : Option InputTrap) → (environments h).number ≢ number →
    ((environment_of number (environments (Text Count ∷ h))).input_trap ≡ (environment_of number (environments h)).input_trap)
    × ((environment_of number (environments (SetsTrap trap ∷ h))).input_trap ≡ (environment_of number (environments h)).input_trap)
