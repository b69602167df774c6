-- What the code goes back to at the end of a body, and where the input is left.
use Rattle.std.proofs.Common.{◌≡◌, ℕ, Bool, true, false, List, [], ◌∷◌, None, Ok, refl, sym, ap, subst, ◌∙◌, if◌then◌else◌}
use Rattle.input_model.specs.Input.{leaving, outermost_back}
use Rattle.input_model.specs.Looking.{closing}
use Rattle.page_model.specs.declared.event.Event.TheVariants.{Resume}
use Rattle.run_model.specs.PageEvents.{PageEvent}
use Rattle.run_model.specs.declared.event.PageEvent.TheVariants.{Text}
use Rattle.run_model.specs.Reading.Items.{PageUnread}
use Rattle.run_model.specs.Reading.Returns.{behind_return, gone_back_to, is_text}
use Rattle.run_model.specs.declared.line_state.LineState.{LineState}
use Rattle.run_model.specs.declared.line_state.LineState.TheVariants.{LineStart}
use Rattle.read_lines.specs.Reader.State.{ReaderState}
use Rattle.page_bytes.specs.Sinks.{Sunk}
use Rattle.run_events.specs.declared.formatter.Formatter.{Formatter}
use Rattle.run_events.specs.Formatter.Performing.{PerformsEvents}
use Rattle.run_events.proofs.Performed.{performs_nothing}
use Rattle.run_turns.specs.declared.running.Running.{Running as Coded}
use Rattle.run_turns.specs.Running.Leaving.{DropsAhead, GoesBack}

-- what going back means, by whether a text line is read
abbrev meaning_of : Bool → List PageEvent
meaning_of so = if so then Text Resume ∷ [] else []

-- a text line goes on
pub goes_back-text : (old : Coded) (f : Formatter) → is_text old.interpreter.reader.reading ≡ true
    → ((told : Sunk) → PerformsEvents (Text Resume ∷ []) old.interpreter.formatter f told told (Ok None))
    → GoesBack old.interpreter.reader.reading old (record old { interpreter = record old.interpreter { formatter = f } })
goes_back-text old f so performs = record {
  is = refl;
  performs = λ told.
      subst (λ (so : Bool). PerformsEvents (meaning_of so) old.interpreter.formatter f told told (Ok None)) (sym so) (performs told);
}

-- anything else only goes on
pub goes_back-other : (old : Coded) → is_text old.interpreter.reader.reading ≡ false → GoesBack old.interpreter.reader.reading old old
goes_back-other old so = record {
  is = refl;
  performs = λ told.
      let f : Formatter = old.interpreter.formatter in
      subst (λ (so : Bool). PerformsEvents (meaning_of so) f f told told (Ok None)) (sym so) (performs_nothing f told);
}

-- where this is read, it was gone back to
pub goes_back-behind : (old new : Coded) (reader : ReaderState) (reading : LineState) → reader ≡ record old.interpreter.reader { reading = reading }
    → GoesBack reader.reading (record old { interpreter = record old.interpreter { reader = reader } }) new → GoesBack reading old new
goes_back-behind old new reader reading is goes =
    let Goal : ReaderState → Type 0 = λ r. GoesBack r.reading (record old { interpreter = record old.interpreter { reader = r } }) new in
    let there : Goal (record old.interpreter.reader { reading = reading }) = subst Goal is goes in
    record { is = there.is; performs = there.performs }

-- the input was left where a line begins
pub drops_ahead-left : (old new : Coded) (left : PageUnread) (back : ℕ) → old.interpreter.reader.reading ≡ LineStart
    → left ≡ record old.unread { input = leaving old.unread.input; looked = closing old.unread.looked } → back ≡ outermost_back 0 old.unread.input.ahead
    → GoesBack (behind_return back old.interpreter.reader.reading) (record old { unread = left }) new → DropsAhead old new
drops_ahead-left old new left back begins is outermost goes =
    let reading : behind_return back old.interpreter.reader.reading ≡ gone_back_to (outermost_back 0 old.unread.input.ahead) =
    ap (behind_return back) begins ∙ ap gone_back_to outermost in
    subst (λ (r : LineState). GoesBack r (record old { unread = record old.unread { input = leaving old.unread.input; looked = closing old.unread.looked } }) new)
    reading
    (subst (λ (u : PageUnread). GoesBack (behind_return back old.interpreter.reader.reading) (record old { unread = u }) new) is goes)

-- and so where another reading was given up for that
pub drops_ahead-behind : (old new : Coded) (reader : ReaderState) → reader ≡ record old.interpreter.reader { reading = LineStart }
    → DropsAhead (record old { interpreter = record old.interpreter { reader = reader } }) new → DropsAhead old new
drops_ahead-behind old new reader is drops =
    let Goal : ReaderState → Type 0 = λ r. DropsAhead (record old { interpreter = record old.interpreter { reader = r } }) new in
    let there : Goal (record old.interpreter.reader { reading = LineStart }) = subst Goal is drops in
    record { is = there.is; performs = there.performs }
