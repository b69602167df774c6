-- A newline behind which a line begins, and that changes nothing else: it leads from stage to stage, and is read past.
use Rattle.std.proofs.Common.{◌≡◌, ℕ, List, [], ◌∷◌, None, refl, sym, subst, arith}
use Rattle.input_model.specs.Arguments.{Arguments}
use Rattle.input_source.specs.Bytes.{newline}
use Rattle.input_source.specs.Tape.{Tape}
use Rattle.input_model.specs.Unread.{IsWithin}
use Rattle.roff_scan.specs.Unread.Calls.{PassesFront}
use Rattle.roff_store.specs.Named.{Named}
use Rattle.roff_store.specs.Texts.{Entry}
use Rattle.read_shortcuts.proofs.ControlFronts.{reads-front, stage_with}
use Rattle.read_lines.specs.Reader.State.{ReaderState}
use Rattle.run_model.specs.Reading.Items.{PageUnread}
use Rattle.run_model.specs.Reading.Ends.{due}
use Rattle.run_model.specs.Stages.{EndsByNewline, Here, Onward, Stage, Turned, input_at}
use Rattle.read_shortcuts.specs.Stages.{ReadsPast}
use Rattle.run_model.specs.declared.line_state.LineState.{LineState}
use Rattle.run_model.specs.declared.line_state.LineState.TheVariants.{LineStart}

-- a line begins behind it
pub turned-ended : (names : Named Entry) (reading : LineState) (a : Arguments) (texts : List (List ℕ)) → due reading ≡ None → EndsByNewline reading
    → Turned names (stage_with reading [] a texts) (newline ∷ []) (stage_with LineStart [] a texts)
turned-ended names reading a texts none_due ends =
    let p : Stage = stage_with reading [] a texts in
    let q : Stage = stage_with LineStart [] a texts in
    Onward p q q newline [] none_due refl (λ k i. ends k (input_at names p i)) refl (omega arith) (omega arith) (Here q)

-- and it was read past
pub reads-ended : (gave gives : Tape → Type 0) (r new : ReaderState) (before after : PageUnread) → due r.reading ≡ None → EndsByNewline r.reading
    → before.input.escapes ≡ [] → PassesFront gave gives (newline ∷ []) before after → IsWithin after → new ≡ record r { reading = LineStart }
    → ReadsPast gave gives r new before after
reads-ended gave gives r new before after none_due ends none_half passes within same =
    subst (λ (n : ReaderState). ReadsPast gave gives r n before after) (sym same)
    (reads-front gave gives r LineStart (newline ∷ []) before after none_half
    (turned-ended before.input.names r.reading before.input.arguments before.input.open_texts none_due ends) passes within)
