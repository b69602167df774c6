-- A macro that sprang is read up to its end, and behind that what it interrupted goes on (manual, section 7.5).
use Rattle.std.specs.Prelude.{◌≡◌, ◌⊎◌, ◌+◌, ℕ, suc, List, ◌∷◌, ◌++◌, IsSome}
use Rattle.roff_num.specs.declared.limits.Limits.{Limits}
use Rattle.roff_num.specs.declared.short_name.ShortName.{ShortName}
use Rattle.input_model.specs.Input.{Ahead, ReturnAhead, item_taken}
use Rattle.run_model.specs.PageEvents.{PageEvent}
use Rattle.run_model.specs.Reading.Returns.{back_of}
use Rattle.run_model.specs.Requests.{called_by}
use Rattle.run_model.specs.Run.{Leads, State, after, step}
use Rattle.run_model.specs.declared.line_state.LineState.{LineState}
use Rattle.run_model.specs.declared.line_state.LineState.TheVariants.{LineStart, Branch, Braced, Text as InText}
use Rattle.run_model.specs.declared.request.Called.TheVariants.{Body as ABody}
use Rattle.law_runs.specs.SpringLaws.{MayBeInterrupted, Springs, before_macro, steps_to_macro, text_with, with_rest_back}
use Rattle.law_runs.specs.TrapLaws.{LeavesInput}

-- no control line is being read: a line begins, or a branch, or it is one of text
abbrev pub ReadsNoControlLine : LineState → Type 0
ReadsNoControlLine LineStart = Unit {0}
ReadsNoControlLine Branch = Unit {0}
ReadsNoControlLine Braced = Unit {0}
ReadsNoControlLine (InText line) = Unit {0}
ReadsNoControlLine (_) = ⊥

-- The end of a macro is taken in the next step, and what was put back stands behind it. Then this is read as it was, if no control line
-- is being read there: if the macro's own lines are whole.
pub record TakesEnd (l : Limits) (reading : LineState) (behind : List (Ahead PageEvent)) (s : State) : Type 0 where
  pub stands : s.input.ahead ≡ ReturnAhead (back_of reading) ∷ behind
  pub input : (step l s).input ≡ item_taken (ReturnAhead (back_of reading)) behind s.input
  pub goes_on : MayBeInterrupted reading → ReadsNoControlLine s.reading → (step l s).reading ≡ reading

-- A macro that sprang has been read so far: its end stands ahead yet, with all that it interrupted behind; or it was taken; or the run
-- ended; or an `ex` left the input on the way.
pub data HasBeenRead (l : Limits) (from : State) (reading : LineState) (behind : List (Ahead PageEvent)) (s : State) : Type 0 where
  IsRead : (front : List (Ahead PageEvent)) → s.input.ahead ≡ front ++ ReturnAhead (back_of reading) ∷ behind → HasBeenRead l from reading behind s
  EndTaken : (at : State) → Leads l from at → TakesEnd l reading behind at → Leads l (step l at) s → HasBeenRead l from reading behind s
  RunEnded : IsSome s.ended → HasBeenRead l from reading behind s
  InputLeft : (at : State) → Leads l from at → LeavesInput at → Leads l at s → HasBeenRead l from reading behind s

-- Whatever a macro's lines are, and whatever springs within them: all that they put in front is read before what the macro interrupted,
-- and behind its end the line goes on as it was. So it is too where the event that sprang it changes the text of a diversion first.
abbrev pub MacrosAreReadToTheirEnd : Type 0
MacrosAreReadToTheirEnd =
    (l : Limits) (s : State) (e : PageEvent) (rest : List PageEvent) (name : ShortName) (n : ℕ) → Springs l s e rest name
    → called_by name (before_macro e rest name s).input.names ≡ ABody name
    → HasBeenRead l s s.reading (with_rest_back e rest s).input.ahead (after l (suc (steps_to_macro (text_with e s)) + n) s)

-- where it sprang in a text line, or where a line or a branch begins, a line begins in it
abbrev pub MacrosBeginALine : Type 0
MacrosBeginALine =
    (l : Limits) (s : State) (e : PageEvent) (rest : List PageEvent) (name : ShortName) → Springs l s e rest name
    → called_by name (before_macro e rest name s).input.names ≡ ABody name → ReadsNoControlLine s.reading →
    let read : State = after l (suc (steps_to_macro (text_with e s))) s in
    IsSome read.ended ⊎ (read.reading ≡ LineStart)
