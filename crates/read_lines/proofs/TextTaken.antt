-- Bytes that are read as themselves: neither dropped nor a backslash, where nothing is half read.
use Rattle.std.proofs.Common.{◌≡◌, ℕ, ◌==◌, Bool, false, List, [], ◌∷◌, Option, Ok, refl, sym, ap, ◌∙◌, if◌then◌else◌, length, not, eqb-true}
use Rattle.std.proofs.lemmas.Bool.{not-false}
use Rattle.std.proofs.lemmas.List.{nil_from_length}
use Rattle.roff_num.specs.declared.limits.Limits.{Limits}
use Rattle.input_source.specs.Bytes.{apostrophe, backslash, dot}
use Rattle.input_escapes.specs.OpenEscape.{OpenEscape, Backslash}
use Rattle.input_escapes.specs.OpenEscapes.{byte_read}
use Rattle.input_escapes.specs.declared.open_escape.CopyUnit.TheVariants.{Byte}
use Rattle.input_escapes.specs.declared.open_escape.Found.TheVariants.{GoesOn, Unit as GivesUnit}
use Rattle.run_model.specs.Environments.{PageHistory, interrupted_line}
use Rattle.run_model.specs.Events.Steps.{events_of, messages_of}
use Rattle.run_model.specs.Reading.Beginnings.{beginning_text, going_on_told, line_begun, line_begun_as}
use Rattle.run_model.specs.Reading.Found.{found_in, place_in, read_in}
use Rattle.run_model.specs.Reading.Items.{PageInput, PageUnread, Taking, behind_events, meaning_events}
use Rattle.run_model.specs.Reading.TextLines.{text_taking}
use Rattle.run_model.specs.Registers.{AllRegisters, Known}
use Rattle.run_model.specs.PageEvents.{PageEvent}
use Rattle.run_model.specs.declared.line_state.LineState.{LineState}
use Rattle.run_model.specs.declared.line_state.TextLine.{TextLine}
use Rattle.run_model.specs.declared.message.Message.{Message}
use Rattle.run_model.specs.declared.step.Step.{Step}
use Rattle.run_state.specs.Composer.Standing.{StandFor}
use Rattle.run_state.specs.declared.composer.Composer.{Composer as ComposerOf}
use Rattle.read_lines.specs.Reader.State.{ReaderState}
use Rattle.read_lines.specs.Reader.Taken.{TakesAs}
use Rattle.read_lines.proofs.TakesAs.{TakesAs-as, TakesAs-asked, keeps-meaning}
use Rattle.read_lines.proofs.LinesTaken.{TakesAs-said}

-- where it isn't so that something is half read, nothing is
pub none_half : (half : List OpenEscape) → not (length half == 0) ≡ false → half ≡ []
none_half half is = nil_from_length half (eqb-true (length half) 0 (not-false (length half == 0) is))

-- a byte that is no backslash is found as itself, where something may be half read
pub plain-found : (k : Known) (r : LineState) (i : PageInput) (b : ℕ) → i.escapes ≡ [] → (b == backslash) ≡ false
    → found_in k i r (GivesUnit (Byte b)) ≡ read_in k r i (byte_read (place_in k r) i.escapes b)
plain-found k r i b none_half no_escape =
    sym
    (ap (λ (half : List OpenEscape). read_in k r i (byte_read (place_in k r) half b)) none_half
    ∙ ap (λ (c : Bool). read_in k r i (if c then (GoesOn, Backslash ∷ []) else (GivesUnit (Byte b), []))) no_escape
    ∙ ap (λ (half : List OpenEscape). found_in k (record i { escapes = half }) r (GivesUnit (Byte b))) (sym none_half))

-- a byte of a text line, or the first of one: what its step means, whatever is kept
pub TakesAs-named : (t : Known → Taking) (behind : LineState) (es : ComposerOf) (old new : ReaderState) (u : PageUnread) (m : Step)
    → ((kept : List PageEvent) (k : Known) → t k ≡ meaning_events u.input behind (events_of kept m))
    → ((kept : Option Message) → messages_of kept m ≡ []) → new ≡ record old { reading = behind } → TakesAs t es old new u u (Ok m)
TakesAs-named t behind es old new u m as_defined quiet came =
    TakesAs-said t behind [] (events_of new.meaning.events m) es old new u m (as_defined new.meaning.events)
    (keeps-meaning behind old new came) (quiet new.meaning.message) refl

-- the first byte of a text line, if it is no dot and no apostrophe, by the interrupted line that the environments have
pub begins-text : (b : ℕ) (u : PageUnread) (es : ComposerOf) (old new : ReaderState) (m : Step) → (b == dot) ≡ false → (b == apostrophe) ≡ false
    → (interrupted : Option TextLine)
    → ((l : Limits) (h : PageHistory) (rs : AllRegisters) (i : PageInput) → StandFor l h es → interrupted ≡ interrupted_line h)
    → TakesAs (λ k. behind_events (going_on_told interrupted) (text_taking u.input (line_begun_as interrupted) b)) es old new u u (Ok m)
    → TakesAs (λ k. line_begun k u.input b) es old new u u (Ok m)
begins-text b u es old new m no_dot no_apostrophe interrupted asked takes =
    TakesAs-as (λ k. beginning_text k (λ line. text_taking u.input line b)) (λ k. line_begun k u.input b) es old new u u (Ok m)
    (λ k. rw (no_dot, no_apostrophe) refl)
    (TakesAs-asked (λ k line. behind_events (going_on_told line) (text_taking u.input (line_begun_as line) b)) (λ k. k.interrupted) interrupted es old new u u (Ok m) asked takes)
