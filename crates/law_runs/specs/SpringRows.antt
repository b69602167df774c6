-- What a run gives from the middle on: rows of macros that spring are computed with these.
use Rattle.std.specs.Prelude.{ℕ, true, false, List, [], ◌∷◌, ◌++◌, codes, map, Some, None}
use Rattle.roff_num.specs.LimitValues.{default_limits}
use Rattle.roff_num.specs.declared.short_name.ShortName.{ShortName}
use Rattle.roff_store.specs.Texts.{Body}
use Rattle.input_model.specs.Input.{DoAhead}
use Rattle.page_model.specs.declared.layout_event.LayoutEvent.TheVariants.{Length}
use Rattle.input_source.specs.Tape.{OneByte, Ended}
use Rattle.run_model.specs.Environments.{PageHistory}
use Rattle.run_model.specs.Results.{turns}
use Rattle.run_model.specs.Run.{State, blank_state, first_input, output, reported}
use Rattle.run_model.specs.PageEvents.{PageEvent, PastEvent}
use Rattle.run_model.specs.declared.event.PageEvent.TheVariants.{InputTrap as SetsTrap, Page}
use Rattle.run_model.specs.declared.line_state.LineState.{LineState}
use Rattle.run_model.specs.declared.line_state.LineState.TheVariants.{Text as InText}
use Rattle.law_runs.specs.Rows.{Result}

-- a name of one byte
abbrev pub named : ℕ → ShortName
named first = record { first = first; second = None }

-- the next text line that counts springs the macro of this name
abbrev pub next_line_springs : ℕ → PastEvent
next_line_springs first = SetsTrap (Some (record { lines = 1; name = named first }))

-- a text line with a glyph on it, and one with so many leading blanks alone
abbrev pub behind_a_glyph : LineState
behind_a_glyph = InText (record { has_glyph = true; has_other = false; has_brace = false; leading = 0 })

abbrev pub behind_blanks : ℕ → LineState
behind_blanks leading = InText (record { has_glyph = false; has_other = false; has_brace = false; leading = leading })

-- A run that reads this behind a history, with these events to do and these put back. The macro X has this body, no other name
-- stands for anything, and the source goes on so. Pages have one line.
abbrev pub midway : LineState → PageHistory → List PageEvent → List PageEvent → List ℕ → List ℕ → State
midway reading history to_do back body text = record (blank_state (record { items = map OneByte text; ending = Ended })) {
  input = record first_input { names = (codes "X", Body body) ∷ []; ahead = map DoAhead back };
  reading = reading;
  history = history ++ Page (Length 1) ∷ [];
  to_do = to_do;
}

-- what it gives from there on, and how much it takes
abbrev pub gives_from : State → Result
gives_from s = let t : State = turns default_limits 1000 s in record { text = output t; messages = reported t; status = t.ended }

abbrev pub charge_from : State → ℕ
charge_from s = (turns default_limits 1000 s).input.charge
