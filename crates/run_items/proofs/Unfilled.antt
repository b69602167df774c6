-- Text lines that stand in front up to their newlines, and are told and ended at once.
use Rattle.std.proofs.Common.{◌≡◌, ℕ, true, List, [], ◌∷◌, Option, Result, Ok, refl, sym, ap, ◌∙◌, ◌||◌, if◌then◌else◌}
use Rattle.input_source.specs.Bytes.{newline}
use Rattle.run_state.specs.declared.composer.Composer.{Composer as ComposerOf}
use Rattle.page_model.specs.declared.event.Event.TheVariants.{Count, LineEnd, WordEnd}
use Rattle.run_model.specs.Reading.{byte_taking, undropped_taking}
use Rattle.run_model.specs.Reading.Items.{PageInput, PageUnread, meaning_events}
use Rattle.run_model.specs.Reading.TextLines.{blank_line, text_taking}
use Rattle.run_model.specs.PageEvents.{PageEvent}
use Rattle.run_model.specs.declared.event.PageEvent.TheVariants.{Text}
use Rattle.run_model.specs.declared.line_state.LineState.{LineState}
use Rattle.run_model.specs.declared.line_state.LineState.TheVariants.{LineStart, Text as InText}
use Rattle.run_model.specs.declared.line_state.TextLine.{TextLine}
use Rattle.run_model.specs.declared.step.Step.TheVariants.{LineEnd as LineEnds}
use Rattle.read_lines.specs.Reader.State.{ReaderState}
use Rattle.read_lines.specs.Reader.Taken.{TakesAs}
use Rattle.read_lines.proofs.LinesTaken.{TakesAs-undropped}
use Rattle.read_lines.proofs.TakesAs.{TakesAs-where}
use Rattle.read_lines.proofs.TextTaken.{TakesAs-named, plain-found}
use Rattle.page_bytes.specs.Sinks.{Sunk}
use Rattle.run_events.specs.declared.formatter.Formatter.{Formatter}
use Rattle.run_events.specs.declared.halt.Halt.{Halt}
use Rattle.run_events.specs.declared.sprung.Sprung.{Sprung}
use Rattle.run_events.specs.Formatter.Unfilled.{PutsLine}
use Rattle.run_items.specs.declared.interpreter.Interpreter.{Interpreter}
use Rattle.run_items.specs.Performing.{PerformsAll, sinks}
use Rattle.run_items.specs.Unfilled.{EndsFront, told_as}
use Rattle.run_items.proofs.Bounded.{told_nothing}
use Rattle.run_items.proofs.DoesTakings.{taking_done}
use Rattle.run_items.proofs.MessagesTold.{told_then_performed}

-- the events of the end of a text line
abbrev pub ending : List PageEvent
ending = Text WordEnd ∷ Text LineEnd ∷ Text Count ∷ []

-- what a newline means on a text line with a glyph
newline-text : (line : TextLine) (i : PageInput) → line.has_glyph ≡ true → text_taking i line newline ≡ meaning_events i LineStart ending
newline-text line i glyph =
    ap (λ c. meaning_events i LineStart (if c || line.has_other then ending else if line.has_brace then [] else blank_line)) glyph

-- and is read as
takes-newline : (line : TextLine) (es : ComposerOf) (old new : ReaderState) (u : PageUnread) → line.has_glyph ≡ true → old.reading ≡ InText line
    → u.input.escapes ≡ [] → new ≡ record old { reading = LineStart }
    → TakesAs (λ k. byte_taking k old.reading u.input newline) es old new u u (Ok LineEnds)
takes-newline line es old new u glyph is none_half came =
    let place : LineState = InText line in
    TakesAs-undropped newline es old new u u (Ok LineEnds) refl
    (TakesAs-where (λ k r. undropped_taking k r u.input newline) place es old new u u (Ok LineEnds) is
    (TakesAs-named (λ k. undropped_taking k place u.input newline) LineStart es old new u LineEnds
    (λ kept k. sym (plain-found k place u.input newline none_half refl) ∙ newline-text line u.input glyph)
    (λ kept. refl) came))

-- an interpreter that did this behind bytes that were told ended the line
pub ends_front : (front : List ℕ) (count : ℕ) (old new : Interpreter) (out out_new : Sunk) (put_result result : Result (Option Sprung) Halt) (put_by : Formatter)
    → (put : PutsLine front count old.formatter put_by out out_new put_result)
    → PerformsAll ending (told_as old put.told LineStart) new out out_new result
    → EndsFront front count old new out out_new result
ends_front front count old new out out_new put_result result put_by put performed = record {
  told = put.told;
  tells = put.tells;
  takes = λ line u err glyph none_half.
      let before : Interpreter = told_as old put.told (InText line) in
      let mid : Interpreter = told_as old put.told LineStart in
      taking_done (λ k. byte_taking k (InText line) u.input newline) before mid u u LineEnds
      (takes-newline line put.told.composer before.reader mid.reader u glyph refl none_half refl) refl u.input.line refl new (sinks out err) (sinks out_new err) result
      (told_then_performed u.input.line [] ending mid new out out_new err err result (told_nothing err) performed);
}
