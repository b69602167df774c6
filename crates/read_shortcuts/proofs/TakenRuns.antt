-- What bytes of a run lead to, by its kind.
use Rattle.std.proofs.Common.{◌≡◌, ℕ, List, None, Some, false, refl, ap, ◌∙◌}
use Rattle.input_model.specs.Arguments.{bytes_held}
use Rattle.input_source.specs.Bytes.{is_passed, is_text_byte}
use Rattle.input_source.specs.Tape.{Tape}
use Rattle.roff_store.specs.Texts.{newest}
use Rattle.roff_scan.proofs.AddedFronts.{adding-texts, texts_added}
use Rattle.input_model.specs.Unread.{IsWithin}
use Rattle.roff_scan.specs.Unread.Runs.{TakesRun}
use Rattle.roff_scan.specs.declared.run_kind.RunKind.{RunKind}
use Rattle.roff_scan.specs.declared.run_kind.RunKind.TheVariants.{Text, Blanks, Arguments, CallArguments, Name, Condition, Definition, Ignored, Dropped}
use Rattle.run_model.specs.Reading.Items.{PageInput, PageUnread}
use Rattle.run_model.specs.Stages.{Turned, stage_of}
use Rattle.run_model.specs.declared.line_state.LineState.{LineState}
use Rattle.read_shortcuts.specs.Runs.{IsRun}
use Rattle.read_shortcuts.specs.Stages.{ReadsPast}
use Rattle.read_lines.specs.Reader.State.{ReaderState}
use Rattle.read_shortcuts.proofs.AddedRuns.{turned-added, turned-same}
use Rattle.read_shortcuts.proofs.ConditionRuns.{turned-taken}
use Rattle.read_shortcuts.proofs.HeldRuns.{turned-held}
use Rattle.read_shortcuts.proofs.NameFronts.{turned-read}
use Rattle.read_shortcuts.proofs.RunsRead.{reads-taken, turned-behind}

module _ (gave gives : Tape → Type 0) (ready : List ℕ) (count : ℕ) (reading : LineState) (before after : PageUnread) where
  -- the bytes of a run lead to the stage behind it, but for blanks, which are counted
  turned-run : (kind : RunKind) (took : TakesRun kind gave gives ready count before after) → IsRun kind reading before.input.escapes → (kind ≡ Blanks → ⊥)
      → Turned before.input.names (stage_of reading before.input) took.bytes (stage_of reading after.input)
  turned-run Text took run other =
      let i : PageInput = before.input in
      turned-behind i.names (stage_of reading i) took.bytes reading after.input i.escapes i.arguments i.open_texts took.half_read took.arguments took.texts
      (turned-same (λ b. false) i.names reading i.escapes i.arguments i.open_texts took.bytes run.half_read run.none_due (λ b plain. absurd (cc)) took.are_of)
  turned-run Blanks took run other = absurd (other refl)
  turned-run Arguments took run other =
      let i : PageInput = before.input in
      turned-behind i.names (stage_of reading i) took.bytes reading after.input i.escapes (bytes_held took.bytes i.arguments) i.open_texts took.half_read took.arguments took.texts
      (turned-held None i.names reading i.escapes i.open_texts i.arguments took.bytes run.half_read run.none_due (λ b plain k j bare few. run.does b plain k j bare) took.are_of took.fewer)
  turned-run (CallArguments most) took run other =
      let i : PageInput = before.input in
      turned-behind i.names (stage_of reading i) took.bytes reading after.input i.escapes (bytes_held took.bytes i.arguments) i.open_texts took.half_read took.arguments took.texts
      (turned-held (Some most) i.names reading i.escapes i.open_texts i.arguments took.bytes run.half_read run.none_due run.does took.are_of took.fewer)
  turned-run Name took run other =
      let i : PageInput = before.input in
      turned-behind i.names (stage_of reading i) took.bytes reading after.input after.input.escapes i.arguments i.open_texts refl took.arguments took.texts
      (turned-read i.names reading i.arguments i.open_texts i.escapes after.input.escapes took.bytes run.none_due run.does took.half_read)
  turned-run Condition took run other =
      let i : PageInput = before.input in
      turned-behind i.names (stage_of reading i) took.bytes reading after.input after.input.escapes i.arguments i.open_texts refl took.arguments took.texts
      (turned-taken i.names reading i.arguments i.open_texts i.escapes after.input.escapes took.bytes run.none_due run.does took.half_read)
  turned-run Definition took run other =
      let i : PageInput = before.input in
      let grown : List (List ℕ) = texts_added took.bytes (newest i.open_texts) i.open_texts in
      turned-behind i.names (stage_of reading i) took.bytes reading after.input i.escapes i.arguments grown took.half_read took.arguments
      (took.texts ∙ ap (λ (j : PageInput). j.open_texts) (adding-texts took.bytes i))
      (turned-added i.names reading i.escapes i.arguments i.open_texts took.bytes run.half_read run.none_due run.does took.are_of)
  turned-run Ignored took run other =
      let i : PageInput = before.input in
      turned-behind i.names (stage_of reading i) took.bytes reading after.input i.escapes i.arguments i.open_texts took.half_read took.arguments took.texts
      (turned-same is_text_byte i.names reading i.escapes i.arguments i.open_texts took.bytes run.half_read run.none_due run.does took.are_of)
  turned-run (Dropped within_block) took run other =
      let i : PageInput = before.input in
      turned-behind i.names (stage_of reading i) took.bytes reading after.input i.escapes i.arguments i.open_texts took.half_read took.arguments took.texts
      (turned-same (is_passed within_block) i.names reading i.escapes i.arguments i.open_texts took.bytes run.half_read run.none_due
      (λ b plain k j bare. run.does.0 b plain k j) took.are_of)

-- so it was read past
pub reads-a_run : (kind : RunKind) (gave gives : Tape → Type 0) (ready : List ℕ) (count : ℕ) (r : ReaderState) (before after : PageUnread)
    → TakesRun kind gave gives ready count before after → IsRun kind r.reading before.input.escapes → (kind ≡ Blanks → ⊥) → IsWithin after
    → ReadsPast gave gives r r before after
reads-a_run kind gave gives ready count r before after took run other within =
    reads-taken kind gave gives ready count r r before after took (turned-run gave gives ready count r.reading before after kind took run other) refl refl within
