-- A control line that was read at once up to its newline, and then the newline was taken.
use Rattle.std.proofs.Common.{false, ◌≡◌, [], ℕ, ◌≤◌, true, ◌∷◌, ◌++◌, Result, refl, sym, ap, subst, ◌∙◌, arith}
use Rattle.input_source.specs.Bytes.{newline}
use Rattle.input_source.specs.Tape.{Tape}
use Rattle.roff_scan.proofs.Staged.{passes-staged, stage-behind}
use Rattle.roff_scan.specs.Unread.Calls.{PassesFront}
use Rattle.roff_scan.specs.Unread.Runs.{with_stage_of}
use Rattle.run_model.specs.Reading.Items.{PageInput, PageUnread}
use Rattle.run_model.specs.Run.{byte_taken}
use Rattle.run_model.specs.Stages.{Turned, stage_of}
use Rattle.run_model.specs.declared.status.Status.{Status}
use Rattle.read_lines.specs.Reader.State.{ReaderState}
use Rattle.read_shortcuts.specs.Stages.{ReadsLine, ReadsPast}
use Rattle.run_turns.specs.declared.running.Running.{Running as Coded}
use Rattle.run_items.specs.Outcome.{Seen, seen}
use Rattle.run_turns.specs.Running.Turning.{DoesItem, GoesPast, Comes}
use Rattle.page_bytes.specs.Sinks.{Sunk}
use Rattle.run_turns.proofs.ComingFurther.{comes_both, read_turn}
use Rattle.run_items.proofs.LinesSplit.{between, line-between, mid, passes-bytes, takes-newline, within-between}
use Rattle.run_shortcuts.proofs.Turned.{goes_past_turned}
use Rattle.run_turns.proofs.WaitedBytes.{byte_alone}

module _ (gave gives : Tape → Type 0) (noted notes failed failures : ℕ) (out err : Sunk) (old : Coded) (after : PageUnread) (r : ReaderState)
    (line : ReadsLine gave gives old.interpreter.reader r old.unread after) where
  abbrev i : PageInput
  i = old.unread.input

  -- what was unread, with what the bytes of the line change
  abbrev changed : PageUnread
  changed = record old.unread { input = with_stage_of after.input i }

  all : PassesFront gave gives (line.bytes ++ newline ∷ []) changed after
  all = line.passes

  -- what is unread in front of the newline
  abbrev there : PageUnread
  there = between gave gives line.bytes changed after all

  abbrev run_there : Coded
  run_there = record old { unread = there; interpreter = record old.interpreter { reader = r } }

  front : PassesFront gave (mid gave gives line.bytes changed after all) line.bytes changed there
  front = passes-bytes gave gives line.bytes changed after all

  -- the bytes of the line were read past
  past-line : ReadsPast gave (mid gave gives line.bytes changed after all) old.interpreter.reader r old.unread there
  past-line =
      let stage = stage-behind gave (mid gave gives line.bytes changed after all) line.bytes after.input.escapes after.input.arguments after.input.open_texts old.unread there front in
      record {
        bytes = line.bytes;
        turned = subst (λ (j : PageInput). Turned i.names (stage_of old.interpreter.reader.reading i) line.bytes (stage_of r.reading j)) (sym stage) line.turned;
        passes = passes-staged gave (mid gave gives line.bytes changed after all) line.bytes after.input.escapes after.input.arguments after.input.open_texts old.unread there front;
        registers = line.registers;
        meaning = line.meaning;
        within = within-between gave gives line.bytes changed after all line.some line.plain line.within;
      }

  -- and then its newline was taken
  pub comes-line : (new : Coded) (behind : Seen) (result : Result (Unit {0}) Status) → notes ≤ noted → failures ≡ failed
      → DoesItem after.input.line (byte_taken newline) (record old { unread = after; interpreter = record old.interpreter { reader = r } }) new (seen failures out err) behind result
      → Comes true gave gives noted notes old new (seen failed out err) behind result
  comes-line new behind result fewer same acts =
      let stage = stage-behind gave (mid gave gives line.bytes changed after all) line.bytes after.input.escapes after.input.arguments after.input.open_texts old.unread there front in
      let none_half : there.input.escapes ≡ [] = ap (λ (j : PageInput). j.escapes) stage ∙ line.none_half in
      let line_is : after.input.line ≡ there.input.line = sym (line-between gave gives line.bytes changed after all line.some line.plain) in
      let past : GoesPast false gave (mid gave gives line.bytes changed after all) noted noted old run_there (seen failed out err) (seen failed out err) =
      goes_past_turned gave (mid gave gives line.bytes changed after all) noted noted failed failed out err old there r past-line (omega arith) refl in
      let more : failed ≤ failures = omega (arith, same) in
      comes_both false past
      (read_turn run_there line.none_due
      (byte_alone run_there failed failures out err noted notes more fewer newline after.input.line new behind result (takes-newline gave gives line.bytes changed after all) none_half line_is acts))
