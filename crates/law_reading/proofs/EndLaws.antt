-- The laws over the start and the end of a run.
use Rattle.std.proofs.Common.{◌≡◌, ◌≢◌, ◌⊎◌, inl, inr, ℕ, Bool, true, false, List, [], ◌∷◌, ◌++◌, Option, Some, None, refl, sym, ap, ◌∙◌, bytes_eq, pos, if◌then◌else◌, append-nil}
use Rattle.roff_num.specs.declared.limit.Limit.{Limit}
use Rattle.roff_num.specs.declared.limits.Limits.{Limits}
use Rattle.roff_num.specs.declared.num.Num.{Num}
use Rattle.roff_num.specs.declared.short_name.ShortName.{ShortName}
use Rattle.input_escapes.specs.OpenEscape.{OpenEscape}
use Rattle.input_model.specs.Input.{Ahead}
use Rattle.input_source.specs.Tape.{Answer, Ended, Ends, front}
use Rattle.law_reading.specs.EndLaws.{ExClosesTheInput, ExIsIgnoredAsTheRunCloses, GivenRegistersRead, IsReadThrough, NamesNone, TheLastMacroIsRead, ThenTheLineIsPlaced, ThenTheRunIsDone, WithoutOneNothingIsRead}
use Rattle.run_model.specs.Reading.Calls.{called_last, last_called}
use Rattle.run_model.specs.Reading.Ends.{due, is_unfinished}
use Rattle.run_model.specs.Reading.Items.{PageInput}
use Rattle.run_model.specs.Environments.{PageHistory}
use Rattle.run_model.specs.Layouts.{layout_of}
use Rattle.run_model.specs.Registers.{is_page, numbered, settable}
use Rattle.run_model.specs.Requests.Effects.{page_numbered}
use Rattle.run_model.specs.Requests.Numbering.{number_of_page}
use Rattle.run_model.specs.Run.Counts.{first_passed, names_counted}
use Rattle.run_model.specs.Starts.{history_given, with_given}
use Rattle.roff_store.specs.declared.register.Register.{Register}
use Rattle.law_runs.proofs.Endings.{step-going}
use Rattle.law_runs.proofs.RegisterLaws.{number_by, settable-other, settable-set, settable_by}
use Rattle.run_model.specs.PageEvents.{PageEvent}
use Rattle.run_model.specs.Events.Lines.{closing_events}
use Rattle.run_model.specs.Run.{Following, State, nothing_follows, answered, ending_input, input_ended, input_left, known, left_in, made, phase_ended, reading_by, source_answer, step, step_behind, step_with, unless_refused, with_registers, with_sprung}
use Rattle.run_model.proofs.ItemsTaken.{step-reads}
use Rattle.law_reading.proofs.Interpolation.{unread_input_is_the_tape}
use Rattle.run_model.specs.declared.line_state.LineState.{LineState}
use Rattle.run_model.specs.declared.line_state.LineState.TheVariants.{Exiting, LineStart}
use Rattle.run_model.specs.declared.phase.Phase.{Phase}
use Rattle.run_model.specs.declared.phase.Phase.TheVariants.{Reading, LastMacro, Closing}
use Rattle.run_model.specs.declared.request.Called.{Called}
use Rattle.run_model.specs.declared.request.Called.TheVariants.{Body as ABody}

-- a source that has ended, or is closed, answers so
answers_end : (s : State) → (s.is_closed ≡ true) ⊎ (front s.tape ≡ Ends Ended) → source_answer s ≡ Ends Ended
answers_end s (inl closed) = ap (λ (closed : Bool). if closed then Ends Ended else front s.tape) closed
answers_end s (inr ends) = by_closed s.is_closed
  where
    by_closed : (closed : Bool) → (if closed then Ends Ended else front s.tape) ≡ Ends Ended
    by_closed true = refl
    by_closed false = ends

-- where all is read the phase ends
ends-phase : (l : Limits) (phase : Phase) (s : State) → IsReadThrough phase s → step l s ≡ made l s (phase_ended phase s)
ends-phase l phase s through =
    step-reads l s through.going through.idle through.unsprung through.none_due
    ∙ unread_input_is_the_tape l s through.none_ahead through.none_half
    ∙ ap (λ (a : Answer). answered l a s) (answers_end s through.over)
    ∙ ap (λ (half : List OpenEscape). ending_input l half s) through.none_half
    ∙ ap (λ (p : Phase). made l s (input_ended (is_unfinished p (known s) s.reading) s)) through.phase_is
    ∙ ap (λ (unfinished : Bool). made l s (input_ended unfinished s)) through.finished
    ∙ ap (λ (p : Phase). made l s (phase_ended p s)) through.phase_is

-- nothing is said as it does
phase-silent : (l : Limits) (s : State) (i : PageInput) (phase : Phase) (es : List PageEvent)
    → made l s (record s { phase = phase; reading = LineStart; input = i; messages = s.messages ++ []; to_do = es })
    ≡ made l s (record s { phase = phase; reading = LineStart; input = i; to_do = es })
phase-silent l s i phase es =
    ap (λ (said : List ℕ). made l s (record s { phase = phase; reading = LineStart; input = i; messages = said; to_do = es })) (append-nil s.messages)

pub the_last_macro_is_read : TheLastMacroIsRead
the_last_macro_is_read l s name through named is_body =
    ends-phase l Reading s through
    ∙ ap (λ (name : Option ShortName). made l s (record s { phase = LastMacro; reading = LineStart; input = last_called name s.input; messages = s.messages ++ [] })) named
    ∙ ap (λ (called : Called). made l s (record s { phase = LastMacro; reading = LineStart; input = called_last called s.input; messages = s.messages ++ [] })) is_body
    ∙ phase-silent l s (called_last (ABody name) s.input) LastMacro s.to_do
    ∙ ap (λ (items : List (Ahead PageEvent)). made l s (record s { phase = LastMacro; reading = LineStart; input = called_last (ABody name) (record s.input { ahead = items }) })) through.none_ahead

pub without_one_nothing_is_read : WithoutOneNothingIsRead
without_one_nothing_is_read l s through none =
    ends-phase l Reading s through
    ∙ ap (λ (name : Option ShortName). made l s (record s { phase = LastMacro; reading = LineStart; input = last_called name s.input; messages = s.messages ++ [] })) none
    ∙ phase-silent l s s.input LastMacro s.to_do

pub then_the_line_is_placed : ThenTheLineIsPlaced
then_the_line_is_placed l s through =
    ends-phase l LastMacro s through
    ∙ ap (λ (es : List PageEvent). made l s (record s { phase = Closing; reading = LineStart; messages = s.messages ++ []; to_do = closing_events ++ es })) through.idle
    ∙ phase-silent l s s.input Closing closing_events

pub then_the_run_is_done : ThenTheRunIsDone
then_the_run_is_done l s through = ends-phase l Closing s through

-- the step behind the line of an `.ex`
leaving-step : (l : Limits) (s : State) → s.ended ≡ None → s.to_do ≡ [] → s.follows ≡ nothing_follows → s.reading ≡ Exiting → step l s ≡ made l s (left_in s.phase s)
leaving-step l s going idle unsprung leaves =
    step-going l s going
    ∙ ap (λ (f : Following). step_behind l f.text s) unsprung
    ∙ ap (λ (es : List PageEvent). step_with l es s) idle
    ∙ ap (λ (f : Following). with_sprung l f.sprung s) unsprung
    ∙ ap (λ (reading : LineState). reading_by l (due reading) s) leaves

-- before it closes the input is left
left-reading : (phase : Phase) (s : State) → phase ≢ Closing → left_in phase s ≡ input_left s
left-reading Reading s reads = refl
left-reading LastMacro s reads = refl
left-reading Closing s reads = absurd (reads refl)

pub ex_closes_the_input : ExClosesTheInput
ex_closes_the_input l s going idle unsprung leaves reads = leaving-step l s going idle unsprung leaves ∙ ap (made l s) (left-reading s.phase s reads)

pub ex_is_ignored_as_the_run_closes : ExIsIgnoredAsTheRunCloses
ex_is_ignored_as_the_run_closes l s going idle unsprung leaves closes =
    leaving-step l s going idle unsprung leaves ∙ ap (λ (p : Phase). made l s (left_in p s)) closes

-- a limit that refuses a register ends the run
refused_ends : (l : Limits) (r : Option Limit) (s done : State) → (unless_refused l r s done).ended ≡ None → unless_refused l r s done ≡ done
refused_ends l None s done going = refl
refused_ends l (Some limit) s done going = absurd (cc)

-- the page's number behind what is given
number-given : (n : Option Num) (h : PageHistory) → (layout_of (page_numbered n ++ h)).number ≡ (numbered n (layout_of h)).number
number-given None h = refl
number-given (Some n) h = refl

-- what a name reads as behind it
read_behind : (name : List ℕ) (given : ℕ × Num) (s : State)
    → (let behind : State = record s { registers = with_given given s.registers; history = history_given given s.history } in settable name (known behind))
    ≡ settable_by (is_page name) (number_by (is_page (given.0 ∷ [])) given.1 (layout_of s.history)) name (with_given given s.registers)
read_behind name given s =
    ap (λ (n : Num). settable_by (is_page name) n name (with_given given s.registers))
    (number-given (number_of_page (given.0 ∷ []) given.1) s.history)

-- where others are given its value stays
module _ (l : Limits) (name : ℕ) (value : Num) where
  stays_given : (others : List (ℕ × Num)) (s : State) → NamesNone name others → (with_registers l others s).ended ≡ None
      → (settable (name ∷ []) (known s)).value ≡ value → (settable (name ∷ []) (known (with_registers l others s))).value ≡ value
  stays_given [] s none going is = is
  stays_given (other ∷ others) s none going is =
      let behind : State = record s { registers = with_given other s.registers; history = history_given other s.history } in
      let done : State = with_registers l others behind in
      let same = refused_ends l (first_passed l (names_counted behind.registers)) s done going in
      let differ : bytes_eq (name ∷ []) (other.0 ∷ []) ≡ false = rw none.0 refl in
      let kept = read_behind (name ∷ []) other s
      ∙ settable-other (name ∷ []) (other.0 ∷ []) other.1 (record { 0 = pos 0 }) (layout_of s.history) s.registers differ in
      let there = stays_given others behind none.1 (ap (λ (t : State). t.ended) (sym same) ∙ going) (ap (λ (r : Register). r.value) kept ∙ is) in
      ap (λ (t : State). (settable (name ∷ []) (known t)).value) same ∙ there

pub given_registers_read : GivenRegistersRead
given_registers_read l [] behind name value s free none going =
    let next : State = record s { registers = with_given (name, value) s.registers; history = history_given (name, value) s.history } in
    let same = refused_ends l (first_passed l (names_counted next.registers)) s (with_registers l behind next) going in
    ap (λ (t : State). (settable (name ∷ []) (known t)).value) same
    ∙ stays_given l name value behind next none (ap (λ (t : State). t.ended) (sym same) ∙ going)
    (ap (λ (r : Register). r.value) (read_behind (name ∷ []) (name, value) s)
    ∙ settable-set (name ∷ []) value (record { 0 = pos 0 }) (layout_of s.history) s.registers free)
given_registers_read l (first ∷ before) behind name value s free none going =
    let next : State = record s { registers = with_given first s.registers; history = history_given first s.history } in
    let same = refused_ends l (first_passed l (names_counted next.registers)) s (with_registers l (before ++ (name, value) ∷ behind) next) going in
    ap (λ (t : State). (settable (name ∷ []) (known t)).value) same
    ∙ given_registers_read l before behind name value next free none (ap (λ (t : State). t.ended) (sym same) ∙ going)
