-- Bytes that were taken together and changed only what is read were read past, wherever they stood.
use Rattle.std.proofs.Common.{◌≡◌, ◌+◌, ◌≤◌, ℕ, true, List, [], length, take, take_while, refl, sym, ap, subst, ◌∙◌, arith, take-take}
use Rattle.input_model.specs.Arguments.{Arguments}
use Rattle.input_escapes.specs.OpenEscape.{OpenEscape}
use Rattle.input_source.specs.Tape.{Tape}
use Rattle.roff_store.specs.Named.{Named}
use Rattle.roff_store.specs.Texts.{Entry}
use Rattle.input_model.specs.Unread.{IsWithin}
use Rattle.roff_scan.specs.Unread.Calls.{OfSource, OfTexts, PassesFront, front_bytes, next_bytes}
use Rattle.run_model.proofs.ItemsTaken.{FromAhead, FromSource, Origin}
use Rattle.run_model.proofs.PlainRuns.{behind_bytes-charge, counted, counted-source}
use Rattle.read_shortcuts.proofs.TurnedRuns.{counted-bytes_taken}
use Rattle.run_model.specs.Reading.Items.{PageInput, PageUnread}
use Rattle.run_model.specs.Stages.{Here, Stage, Turned, stage_of}
use Rattle.roff_scan.specs.RunKinds.{goes_by_bytes, is_of}
use Rattle.roff_scan.specs.Unread.Runs.{TakesRun, room_for, with_stage_of}
use Rattle.roff_scan.specs.declared.run_kind.RunKind.{RunKind}
use Rattle.run_model.specs.declared.line_state.LineState.{LineState}
use Rattle.read_lines.specs.Reader.State.{ReaderState}
use Rattle.read_shortcuts.specs.Runs.{TakesReady}
use Rattle.read_shortcuts.specs.Stages.{ReadsPast}

-- the input behind bytes that were taken at once is the one that counts them
pub passed-counted : (gave gives : Tape → Type 0) (bytes : List ℕ) (before after : PageUnread) → PassesFront gave gives bytes before after
    → (from : Origin) × (after.input ≡ counted from bytes before.input)
passed-counted gave gives bytes before after (OfSource passes) =
    (FromSource passes.some.0, ap (λ (u : PageUnread). u.input) passes.input ∙ sym (counted-source passes.some.0 bytes before.input passes.ahead))
passed-counted gave gives bytes before after (OfTexts passes) =
    (FromAhead passes.behind, ap (λ (u : PageUnread). u.input) passes.input ∙ sym (counted-bytes_taken passes.behind bytes before.input passes.in_front))

-- so many more were taken
pub passed-charge : (gave gives : Tape → Type 0) (bytes : List ℕ) (before after : PageUnread) → PassesFront gave gives bytes before after
    → after.input.charge ≡ before.input.charge + length bytes
passed-charge gave gives bytes before after passes =
    let there = passed-counted gave gives bytes before after passes in
    ap (λ (i : PageInput). i.charge) there.1 ∙ behind_bytes-charge there.0 bytes before.input

-- of a run those that tell by themselves how far it goes
pub takes-ready : (kind : RunKind) (gave gives : Tape → Type 0) (ready : List ℕ) (count : ℕ) (before after : PageUnread)
    → TakesRun kind gave gives ready count before after → goes_by_bytes kind ≡ true
    → TakesReady (take_while (is_of kind) (take (room_for kind before) ready)) before after
takes-ready kind gave gives ready count before after took goes = λ asks.
    passed-charge gave gives took.bytes before (record after { input = with_stage_of before.input after.input }) took.passes
    ∙ ap (λ (bytes : List ℕ). before.input.charge + length bytes) (took.whole goes asks)

-- Bytes were taken, with this input behind them as bytes that change nothing leave it; and something else changed of the stage
-- besides, to which they lead.
pub reads-run : (gave gives : Tape → Type 0) (bytes : List ℕ) (r new : ReaderState) (before after : PageUnread) (passed : PageInput) (changes : PageInput → PageInput)
    → after.input ≡ changes passed → ((i : PageInput) → with_stage_of before.input (changes i) ≡ with_stage_of before.input i)
    → PassesFront gave gives bytes before (record after { input = passed })
    → ((i : PageInput) → stage_of new.reading (changes (with_stage_of before.input i)) ≡ stage_of new.reading (changes before.input))
    → Turned before.input.names (stage_of r.reading before.input) bytes (stage_of new.reading (changes before.input))
    → new.registers ≡ r.registers → new.meaning ≡ r.meaning → IsWithin after → ReadsPast gave gives r new before after
reads-run gave gives bytes r new before after passed changes is others passes stage turned registers meaning within =
    let i : PageInput = before.input in
    let there = passed-counted gave gives bytes before (record after { input = passed }) passes in
    let kept : with_stage_of i passed ≡ passed = ap (λ (j : PageInput). with_stage_of i j) there.1 ∙ sym there.1 in
    let same : with_stage_of i after.input ≡ passed = ap (λ (j : PageInput). with_stage_of i j) is ∙ others passed ∙ kept in
    let behind : stage_of new.reading after.input ≡ stage_of new.reading (changes i) =
    ap (λ (j : PageInput). stage_of new.reading j) (is ∙ ap changes (sym kept)) ∙ stage passed in
    record {
      bytes = bytes;
      turned = subst (λ (q : Stage). Turned i.names (stage_of r.reading i) bytes q) (sym behind) turned;
      passes = subst (λ (j : PageInput). PassesFront gave gives bytes before (record after { input = j })) (sym same) passes;
      registers = registers;
      meaning = meaning;
      within = within;
    }

-- where nothing else of the input changed
pub reads-bytes : (gave gives : Tape → Type 0) (bytes : List ℕ) (r new : ReaderState) (before after : PageUnread) → PassesFront gave gives bytes before after
    → Turned before.input.names (stage_of r.reading before.input) bytes (stage_of new.reading before.input)
    → new.registers ≡ r.registers → new.meaning ≡ r.meaning → IsWithin after → ReadsPast gave gives r new before after
reads-bytes gave gives bytes r new before after passes turned registers meaning within =
    reads-run gave gives bytes r new before after after.input (λ i. i) refl (λ i. refl) passes (λ i. refl) turned registers meaning within

-- A run was read past, where its bytes lead to the stage behind it.
pub reads-taken : (kind : RunKind) (gave gives : Tape → Type 0) (ready : List ℕ) (count : ℕ) (r new : ReaderState) (before after : PageUnread)
    → (took : TakesRun kind gave gives ready count before after)
    → Turned before.input.names (stage_of r.reading before.input) took.bytes (stage_of new.reading after.input)
    → new.registers ≡ r.registers → new.meaning ≡ r.meaning → IsWithin after → ReadsPast gave gives r new before after
reads-taken kind gave gives ready count r new before after took turned registers meaning within = record {
  bytes = took.bytes;
  turned = turned;
  passes = took.passes;
  registers = registers;
  meaning = meaning;
  within = within;
}

-- bytes lead to a stage, by what the input has of it
pub turned-behind : (names : Named Entry) (p : Stage) (bytes : List ℕ) (reading : LineState) (i : PageInput) (half : List OpenEscape) (a : Arguments) (texts : List (List ℕ))
    → i.escapes ≡ half → i.arguments ≡ a → i.open_texts ≡ texts
    → Turned names p bytes (record { reading = reading; escapes = half; arguments = a; texts = texts }) → Turned names p bytes (stage_of reading i)
turned-behind names p bytes reading i half a texts is_half is_a is_texts turned =
    subst (λ (h : List OpenEscape). Turned names p bytes (record { reading = reading; escapes = h; arguments = i.arguments; texts = i.open_texts })) (sym is_half)
    (subst (λ (b : Arguments). Turned names p bytes (record { reading = reading; escapes = half; arguments = b; texts = i.open_texts })) (sym is_a)
    (subst (λ (t : List (List ℕ)). Turned names p bytes (record { reading = reading; escapes = half; arguments = a; texts = t })) (sym is_texts) turned))

-- no bytes
pub passes-none : (gave : Tape → Type 0) (u : PageUnread) → IsWithin u → PassesFront gave gave [] u u
passes-none gave u within = OfTexts (record {
  behind = u.input.ahead;
  in_front = refl;
  stays = record { before = λ t may. may; after = λ t may. may };
  input = refl;
  within = omega (arith, within.charge);
})

pub reads-none : (gave : Tape → Type 0) (r : ReaderState) (u : PageUnread) → IsWithin u → ReadsPast gave gave r r u u
reads-none gave r u within = reads-bytes gave gave [] r r u u (passes-none gave u within) (Here (stage_of r.reading u.input)) refl refl within

-- of the bytes in front fewer are the first of them
pub first_of_front : (front : List ℕ) (count : ℕ) (ready : List ℕ) (u : PageUnread) → front ≡ front_bytes (length front) ready u → count ≤ length front
    → take count front ≡ front_bytes count ready u
first_of_front front count ready u is few =
    ap (take count) is ∙ take-take count (length front) (next_bytes u.input.ahead u.looked ready) few
