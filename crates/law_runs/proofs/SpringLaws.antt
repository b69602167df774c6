-- The laws over macros that spring, and over the input-line trap.
use Rattle.std.proofs.Common.{◌≡◌, ◌≢◌, ◌∙◌, ℕ, zero, suc, ◌+◌, ◌-◌, ◌≤◌, Bool, true, false, List, [], ◌∷◌, Option, Some, None, refl, ap, arith, nat_lt, if◌then◌else◌, le-ltb}
use Rattle.std.proofs.lemmas.Bool.Decides.{nat_tests}
use Rattle.roff_num.specs.declared.limit.Limit.{Limit}
use Rattle.roff_num.specs.declared.limit.Limit.TheVariants.{Bytes}
use Rattle.roff_num.specs.declared.limits.Limits.{Limits}
use Rattle.roff_num.specs.declared.short_name.ShortName.{ShortName}
use Rattle.input_escapes.specs.OpenEscape.{OpenEscape}
use Rattle.input_model.specs.Input.{Ahead, ReturnAhead, item_taken}
use Rattle.page_model.specs.declared.event.Event.TheVariants.{Count}
use Rattle.run_model.specs.Environments.{Environments, InEnvironment, counted_down, environments, happened, is_same, number_behind, trap_reached}
use Rattle.run_model.specs.Reading.Returns.{back_of, behind_return, gone_back_to}
use Rattle.run_model.specs.Reading.Waiting.{waiting_above}
use Rattle.run_model.specs.Requests.{called_by}
use Rattle.run_model.specs.Layouts.{layout_of}
use Rattle.run_model.specs.Run.Counts.{refusal}
use Rattle.run_model.specs.Springs.{next, springs}
use Rattle.run_model.specs.Titles.{told}
use Rattle.run_model.specs.Run.{State, after, ahead_taken, done_if, followed_by, in_front_taken, made, only_sprung, performed, performing, read_waiting, going_back_to, sprung_read, step, step_behind, step_with, stopped_by, text_done, unless_refused, with_left}
use Rattle.run_model.specs.declared.environment_number.EnvironmentNumber.{EnvironmentNumber}
use Rattle.run_model.specs.declared.environment_number.EnvironmentNumber.TheVariants.{Zero, One, Two}
use Rattle.run_model.specs.PageEvents.{PageEvent, PastEvent}
use Rattle.run_model.specs.declared.line_state.LineState.{LineState}
use Rattle.run_model.specs.declared.line_state.LineState.TheVariants.{LineStart, Branch, Braced, Text as InText, Control, Name, Deciding, Skipping, Dropped, Told, Exiting, TitleFront, Title as InTitle, Collecting}
use Rattle.run_model.specs.declared.line_state.TextLine.{TextLine}
use Rattle.run_model.specs.declared.request.Called.{Called}
use Rattle.run_model.specs.declared.request.Called.TheVariants.{Body as ABody, Nothing as Unknown}
use Rattle.run_model.proofs.ItemsTaken.{step-TakesItems}
use Rattle.law_runs.proofs.Endings.{step-going}
use Rattle.law_runs.specs.SpringLaws.{EachLineCounts, LinesGoOnAsTheyWere, MacrosAreReadFirst, MayBeInterrupted, NamesWithoutABodyReadNothing, OthersKeepTheirTraps, IsAllowedText, Springs, TheLastLineSprings, before_macro, first_of, input_with, left_behind, steps_to_macro, text_with, with_rest_back}
use Rattle.page_model.specs.DueTexts.{TextDue}
use Rattle.run_model.specs.Following.{following}

-- an event that springs a macro, or what comes before one
performed-springs : (l : Limits) (s : State) (x : PastEvent) (left : List PageEvent) (name : ShortName) → refusal l s.history x ≡ None
    → (layout_of (x ∷ s.history)).is_over ≡ false → springs s.history x ≡ Some name
    → unless_refused l (refusal l s.history x) s (performed x left s)
    ≡ with_left (Some name) left
    (record s { history = x ∷ s.history; follows = record { text = (following s.history x).text; sprung = Some name } })
performed-springs l s x left name allowed goes_on sprung =
    let happened : State = record s { history = x ∷ s.history } in
    let left_by : Option ShortName → State =
    λ sprung. with_left sprung left (record happened { follows = record { text = (following s.history x).text; sprung = sprung } }) in
    ap (λ (r : Option Limit). unless_refused l r s (performed x left s)) allowed
    ∙ ap (λ (over : Bool). done_if over happened (followed_by (following s.history x) left happened)) goes_on
    ∙ ap left_by sprung

performing-springs : (l : Limits) (s : State) (own : Option PageEvent) (e : PageEvent) (rest : List PageEvent) (name : ShortName)
    → let x : PastEvent = told s.registers (first_of own e) in
    refusal l s.history x ≡ None → (layout_of (x ∷ s.history)).is_over ≡ false → springs s.history x ≡ Some name
    → performing l own e rest s
    ≡ with_left (Some name) (left_behind own e rest s)
    (record s { history = x ∷ s.history; follows = record { text = (following s.history x).text; sprung = Some name } })
performing-springs l s None e rest name allowed goes_on sprung =
    performed-springs l s (told s.registers e) (left_behind None e rest s) name allowed goes_on sprung
performing-springs l s (Some own) e rest name allowed goes_on sprung =
    performed-springs l s (told s.registers own) (e ∷ rest) name allowed goes_on sprung

-- where a macro sprang, and this becomes of a text first
abbrev pub springing : Option TextDue → ShortName → State → State
springing text name s = record s { follows = record { text = text; sprung = Some name } }

-- the step at the event
pub springing-step : (l : Limits) (s : State) (e : PageEvent) (rest : List PageEvent) (name : ShortName) → Springs l s e rest name
    → step l s ≡ springing (text_with e s) name (with_rest_back e rest s)
springing-step l s e rest name does =
    step-going l s does.going
    ∙ ap (λ (due : Option TextDue). step_behind l due s) does.no_text
    ∙ ap (λ (es : List PageEvent). step_with l es s) does.first
    ∙ performing-springs l s (next s.history e) e rest name does.allowed does.goes_on does.sprung

-- and those behind it, by what the name stands for: a text that is to change changes first
sprung-step : (l : Limits) (text : Option TextDue) (name : ShortName) (s : State) (called : Called) → s.ended ≡ None → s.to_do ≡ []
    → let before : State = record s { follows = only_sprung (Some name); input = input_with text s.input } in
    IsAllowedText l text before → called_by name before.input.names ≡ called
    → after l (steps_to_macro text) (springing text name s) ≡ made l before (sprung_read called before)
sprung-step l None name s called going idle allowed is =
    let before : State = record s { follows = only_sprung (Some name) } in
    step-going l before going
    ∙ ap (λ (es : List PageEvent). step_with l es before) idle
    ∙ ap (λ (c : Called). made l before (sprung_read c before)) is
sprung-step l (Some due) name s called going idle allowed is =
    let first : State = springing (Some due) name s in
    let before : State = text_done due first in
    ap (step l) (step-going l first going ∙ ap (λ (r : Option Limit). unless_refused l r first before) allowed)
    ∙ step-going l before going
    ∙ ap (λ (es : List PageEvent). step_with l es before) idle
    ∙ ap (λ (c : Called). made l before (sprung_read c before)) is

macro-read : (l : Limits) (s : State) (e : PageEvent) (rest : List PageEvent) (name : ShortName) (called : Called) → Springs l s e rest name
    → let before : State = before_macro e rest name s in
    IsAllowedText l (text_with e s) before → called_by name before.input.names ≡ called
    → after l (suc (steps_to_macro (text_with e s))) s ≡ made l before (sprung_read called before)
macro-read l s e rest name called does allowed is =
    ap (after l (steps_to_macro (text_with e s))) (springing-step l s e rest name does)
    ∙ sprung-step l (text_with e s) name (with_rest_back e rest s) called does.going refl allowed is

pub macros_are_read_first : MacrosAreReadFirst
macros_are_read_first l s e rest name does allowed is = macro-read l s e rest name (ABody name) does allowed is

pub names_without_a_body_read_nothing : NamesWithoutABodyReadNothing
names_without_a_body_read_nothing l s e rest name does allowed is = macro-read l s e rest name Unknown does allowed is

-- what may be interrupted is gone back to
gone_back-text : (glyph other brace : Bool) (leading : ℕ) → leading ≤ 1 → (glyph ≡ true → leading ≡ 0)
    → let line : TextLine = record { has_glyph = glyph; has_other = other; has_brace = brace; leading = leading } in
    gone_back_to (back_of (InText line)) ≡ InText line
gone_back-text true true true zero few told = refl
gone_back-text true true false zero few told = refl
gone_back-text true false true zero few told = refl
gone_back-text true false false zero few told = refl
gone_back-text false true true zero few told = refl
gone_back-text false true false zero few told = refl
gone_back-text false false true zero few told = refl
gone_back-text false false false zero few told = refl
gone_back-text false true true (suc zero) few told = refl
gone_back-text false true false (suc zero) few told = refl
gone_back-text false false true (suc zero) few told = refl
gone_back-text false false false (suc zero) few told = refl
gone_back-text true other brace (suc leading) few told = let none = told refl in absurd (cc)
gone_back-text false other brace (suc (suc leading)) few told = absurd (omega (arith, few))

pub gone_back : (reading : LineState) → MayBeInterrupted reading → gone_back_to (back_of reading) ≡ reading
gone_back LineStart may = refl
gone_back Branch may = refl
gone_back Braced may = refl
gone_back (InText line) may = gone_back-text line.has_glyph line.has_other line.has_brace line.leading may.0 may.1
gone_back (Control breaks) may = absurd may
gone_back (Name breaks first) may = absurd may
gone_back (Collecting purpose) may = absurd may
gone_back (Deciding keeps) may = absurd may
gone_back (Skipping opened closed behind) may = absurd may
gone_back Dropped may = absurd may
gone_back (Told aborts) may = absurd may
gone_back Exiting may = absurd may
gone_back TitleFront may = absurd may
gone_back (InTitle delimiter) may = absurd may

pub lines_go_on_as_they_were : LinesGoOnAsTheyWere
lines_go_on_as_they_were l s reading behind on may starts none_half ahead within =
    let item : Ahead PageEvent = ReturnAhead (back_of reading) in
    let taken : State = record s { input = item_taken item behind s.input } in
    let done : State = made l s (ahead_taken item taken) in
    step-TakesItems l s on
    ∙ ap (λ (r : LineState). read_waiting l (waiting_above r s.input.arguments.place s.input.escapes) s) starts
    ∙ ap (λ (half : List OpenEscape). read_waiting l (waiting_above LineStart s.input.arguments.place half) s) none_half
    ∙ ap (λ (items : List (Ahead PageEvent)). in_front_taken l items s) ahead
    ∙ ap (λ (c : Bool). if c then stopped_by l Bytes s else done) (le-ltb l.bytes (s.input.charge + 1) (omega (arith, within)))
    ∙ ap (λ (r : LineState). made l s (going_back_to (behind_return (back_of reading) r) taken)) starts
    ∙ ap (λ (r : LineState). made l s (going_back_to r taken)) (gone_back reading may)

-- the trap of the environment in force
pub the_last_line_springs : TheLastLineSprings
the_last_line_springs h name is = (ap trap_reached is, ap counted_down is)

pub each_line_counts : EachLineCounts
each_line_counts h trap more is =
    let waits : nat_lt 1 trap.lines ≡ true = grind (arith, nat_tests) in (
      ap trap_reached is ∙ ap (λ (c : Bool). if c then None else Some trap.name) waits,
      ap counted_down is ∙ ap (λ (c : Bool). if c then Some (record trap { lines = trap.lines - 1 }) else None) waits,
    )

-- of another number the environment isn't in force
differ : (number other : EnvironmentNumber) → number ≢ other → is_same number other ≡ false
differ Zero Zero differs = absurd (differs refl)
differ Zero One differs = refl
differ Zero Two differs = refl
differ One Zero differs = refl
differ One One differs = absurd (differs refl)
differ One Two differs = refl
differ Two Zero differs = refl
differ Two One differs = refl
differ Two Two differs = absurd (differs refl)

-- one that isn't in force has the same trap, whatever happens to that one
others_same : (is_there : Bool) (now before other : InEnvironment) → is_there ≡ false
    → (if is_there then now else other).input_trap ≡ (if is_there then before else other).input_trap
others_same true now before other apart = absurd (cc)
others_same false now before other apart = refl

pub others_keep_their_traps : OthersKeepTheirTraps
others_keep_their_traps h number trap differs =
    let es : Environments = environments h in
    let other : InEnvironment = if is_same (number_behind es.number) number then es.next else es.last in
    let apart : is_same es.number number ≡ false = differ es.number number differs in (
      others_same (is_same es.number number) (happened Count es.in_force) es.in_force other apart,
      others_same (is_same es.number number) (record es.in_force { input_trap = trap }) es.in_force other apart,
    )
