-- A run that goes past bytes behind which a line begins, and past a newline.
use Rattle.std.proofs.Common.{◌≡◌, [], ◌≤◌, ℕ, ◌<◌, Bool, true, false, ◌∷◌, None, refl, sym, ap, subst, arith}
use Rattle.input_source.specs.Bytes.{newline}
use Rattle.input_source.specs.Tape.{Tape}
use Rattle.input_model.specs.Unread.{IsWithin}
use Rattle.roff_scan.specs.Unread.Calls.{OfSource, OfTexts, PassesFront}
use Rattle.read_lines.specs.Reader.State.{ReaderState}
use Rattle.run_model.specs.Reading.Items.{PageUnread}
use Rattle.run_model.specs.Reading.Ends.{due}
use Rattle.run_model.specs.Stages.{EndsByNewline}
use Rattle.read_definitions.specs.CopiedLines.{CopiesOn}
use Rattle.read_shortcuts.specs.DroppedLines.{LineBegun}
use Rattle.read_shortcuts.specs.Stages.{ReadsPast}
use Rattle.run_model.specs.TurnsToCome.{begun, free_ahead, turns_to_come}
use Rattle.run_model.specs.declared.line_state.LineState.TheVariants.{LineStart}
use Rattle.read_shortcuts.proofs.LineEnds.{reads-ended}
use Rattle.run_turns.specs.declared.running.Running.{Running as Coded}
use Rattle.run_items.specs.Outcome.{seen}
use Rattle.run_turns.specs.Running.Turning.{GoesPast}
use Rattle.page_bytes.specs.Sinks.{Sunk}
use Rattle.run_shortcuts.proofs.Turned.{goes_past_turned}
use Rattle.run_turns.proofs.TurnsLeft.{turns_of_run-fewer}
use Rattle.run_turns.proofs.ComingFurther.{comes_fewer}

-- fewer turns are to come behind a newline that was taken
fewer-newline : (gave gives : Tape → Type 0) (before after : PageUnread) → PassesFront gave gives (newline ∷ []) before after → turns_to_come after < turns_to_come before
fewer-newline gave gives before after (OfSource passes) =
    subst (λ (u : PageUnread). turns_to_come u < turns_to_come before) (sym passes.input) (omega (arith, passes.within))
fewer-newline gave gives before after (OfTexts passes) =
    let free = ap free_ahead passes.in_front in
    subst (λ (u : PageUnread). turns_to_come u < turns_to_come before) (sym passes.input) (omega (arith, passes.within, free))

-- past bytes behind which a line begins
pub goes_further_begun : (gave gives : Tape → Type 0) (noted notes failed failures : ℕ) (out err : Sunk) (old : Coded) (after : PageUnread) (r : ReaderState)
    → ReadsPast gave gives old.interpreter.reader r old.unread after → LineBegun r old.unread after → notes ≤ noted → failures ≡ failed
    → GoesPast true gave gives noted notes old (record old { unread = after; interpreter = record old.interpreter { reader = r } }) (seen failed out err) (seen failures out err)
goes_further_begun gave gives noted notes failed failures out err old after r past line fewer same_failures =
    let none : begun r.reading ≡ 0 = ap begun line.begins in
    let behind = turns_of_run-fewer old (record old { unread = after; interpreter = record old.interpreter { reader = r } }) (omega (arith, line.fewer, none)) refl in
    comes_fewer (omega (arith, behind, fewer))
    (goes_past_turned gave gives noted notes failed failures out err old after r past fewer same_failures)

-- past a newline behind which one does
pub goes_further_ended : (gave gives : Tape → Type 0) (noted notes failed failures : ℕ) (out err : Sunk) (old : Coded) (after : PageUnread) (r : ReaderState)
    → r ≡ record old.interpreter.reader { reading = LineStart } → due old.interpreter.reader.reading ≡ None
    → EndsByNewline old.interpreter.reader.reading → old.unread.input.escapes ≡ [] → PassesFront gave gives (newline ∷ []) old.unread after → IsWithin after
    → notes ≤ noted → failures ≡ failed
    → GoesPast true gave gives noted notes old (record old { unread = after; interpreter = record old.interpreter { reader = r } }) (seen failed out err) (seen failures out err)
goes_further_ended gave gives noted notes failed failures out err old after r is none_due ends none_half passes within fewer same_failures =
    goes_further_begun gave gives noted notes failed failures out err old after r
    (reads-ended gave gives old.interpreter.reader r old.unread after none_due ends none_half passes within is)
    (record { begins = ap (λ (there : ReaderState). there.reading) is; fewer = fewer-newline gave gives old.unread after passes })
    fewer same_failures

-- past lines of a definition that were copied, or past bytes
pub goes_further_copied : (copied : Bool) (gave gives : Tape → Type 0) (noted notes failed failures : ℕ) (out err : Sunk) (old : Coded) (after : PageUnread) (r : ReaderState)
    → ReadsPast gave gives old.interpreter.reader r old.unread after → (copied ≡ true → CopiesOn old.interpreter.reader r old.unread after) → notes ≤ noted → failures ≡ failed
    → GoesPast copied gave gives noted notes old (record old { unread = after; interpreter = record old.interpreter { reader = r } }) (seen failed out err) (seen failures out err)
goes_further_copied true gave gives noted notes failed failures out err old after r past on fewer same_failures =
    let left = on refl in
    let behind = turns_of_run-fewer old (record old { unread = after; interpreter = record old.interpreter { reader = r } }) (omega (arith, left.fewer, left.begun)) refl in
    comes_fewer (omega (arith, behind, fewer))
    (goes_past_turned gave gives noted notes failed failures out err old after r past fewer same_failures)
goes_further_copied false gave gives noted notes failed failures out err old after r past on fewer same_failures =
    goes_past_turned gave gives noted notes failed failures out err old after r past fewer same_failures
