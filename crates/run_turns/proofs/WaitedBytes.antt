-- A byte that is taken, whether what is half read waits for it or not.
use Rattle.input_escapes.specs.OpenEscape.{OpenEscape}
use Rattle.std.proofs.Common.{◌≡◌, ℕ, ◌≤◌, false, List, [], Some, Result, refl, sym, ap, ◌∙◌, arith}
use Rattle.input_escapes.specs.Waiting.{decides as decides_by, is_ended_by}
use Rattle.input_escapes.specs.declared.open_escape.Waiting.{Waiting}
use Rattle.input_source.specs.Tape.{Tape, Item, items_then}
use Rattle.input_model.specs.Unread.{asks_to_take}
use Rattle.input_model.specs.Shown.{Shown, ShowsByte}
use Rattle.roff_scan.specs.Unread.Calls.{Takes}
use Rattle.run_model.specs.PageEvents.{PageEvent}
use Rattle.run_model.specs.declared.status.Status.{Status}
use Rattle.run_model.specs.Reading.Items.{PageUnread}
use Rattle.run_model.specs.Run.{State, byte_taken, known, read_waiting, item_read}
use Rattle.run_model.specs.Reading.{byte_taking}
use Rattle.run_model.specs.Reading.Waiting.{waiting_in}
use Rattle.run_turns.specs.declared.running.Running.{Running as Coded}
use Rattle.run_items.specs.Outcome.{Seen, seen}
use Rattle.run_turns.specs.Running.Turning.{DoesItem, TurnsBy, state_at}
use Rattle.page_bytes.specs.Sinks.{Sunk}
use Rattle.run_items.proofs.Fronts.{few-taken}
use Rattle.run_model.proofs.ReadEvents.{Means-taking}
use Rattle.run_turns.proofs.Items.{moved}
use Rattle.run_turns.proofs.Turns.{LeavesFewer, acted, falls_front, few_front, leaves_fewer, leaves_front, shown_front, turns_of}
use Rattle.run_model.proofs.InFront.{Given-asked, items_asked}
use Rattle.run_model.proofs.TurnsToCome.{turns_within-byte}
use Rattle.run_model.proofs.Waiting.{undecided}
use Rattle.run_items.proofs.SightedBytes.{read_byte}
use Rattle.run_turns.proofs.ComingFurther.{turn_as}

-- a byte was taken, whether it is waited for or not
module _ {gave gives : Tape → Type 0} {left : PageUnread} (old : Coded) (failed failures : ℕ) (out err : Sunk) (noted notes : ℕ) (more : failed ≤ failures) (less : notes ≤ noted) where
  pub byte_by : (w : Waiting) → decides_by w ≡ false → (b line : ℕ) (new : Coded) (after : Seen) (r : Result (Unit {0}) Status)
      → Takes gave gives old.unread left (ShowsByte b) → is_ended_by old.unread.input.escapes (Some b) ≡ false → line ≡ old.unread.input.line
      → DoesItem line (byte_taken b) (moved old left) new (seen failures out err) after r
      → TurnsBy (λ s. read_waiting old.limits w s) gave gives noted notes old new (seen failed out err) after r
  byte_by w undecided b line new after r call goes_on line_is acts =
      let u : PageUnread = old.unread in
      let leaves = leaves_front old call in
      let asked : List Item = items_asked (asks_to_take u) call.answer in
      let fewer : LeavesFewer (byte_taken b) old left r = leaves_fewer (byte_taken b) old left r (λ s is same. (
        omega (arith, turns_within-byte u.limits.bytes (known s) s.reading s.input b, turns_of left u.limits s.input leaves.limits (sym is), falls_front old call tt),
        refl,
      )) in
      acted leaves _ noted notes (byte_taken b) line new failed failures out err after r more less line_is
      (λ limits tape may h ms.
      let from : State = state_at (items_then asked tape) old h ms in
      read_byte old.limits u.limits w u.input from b goes_on undecided u.looked call.answer (items_then asked tape) tape
      (Given-asked gave gives (asks_to_take u) call.answer call.asked tape may) (ap (λ (c : Shown PageEvent × PageUnread). c.0) (sym call.taken))
      ∙ shown_front old call limits tape may h ms)
      fewer (λ tape h ms few.
      let s : State = state_at tape (moved old left) h ms in
      few-taken (byte_taking (known s) s.reading left.input b) left.input.ahead (few_front old call s.reading few.few) (Means-taking (known s) s.reading left.input b).0) acts

  -- where nothing is half read, whatever the line waits for
  pub byte_alone : (b line : ℕ) (new : Coded) (after : Seen) (r : Result (Unit {0}) Status) → Takes gave gives old.unread left (ShowsByte b)
      → old.unread.input.escapes ≡ [] → line ≡ old.unread.input.line → DoesItem line (byte_taken b) (moved old left) new (seen failures out err) after r
      → TurnsBy (λ s. item_read old.limits s) gave gives noted notes old new (seen failed out err) after r
  byte_alone b line new after r call none line_is acts =
      let goes_on : is_ended_by old.unread.input.escapes (Some b) ≡ false = ap (λ (half : List OpenEscape). is_ended_by half (Some b)) none in
      let w : Waiting = waiting_in old.interpreter.reader.reading old.unread.input in
      turn_as (λ s. item_read old.limits s) (λ s. read_waiting old.limits w s) old (λ tape h ms. refl)
      (byte_by w (undecided old.interpreter.reader.reading old.unread.input.arguments.place old.unread.input.escapes (Some b) goes_on) b line new after r call goes_on line_is acts)
