-- What the code does with a byte that it took, as a step of the definition.
use Rattle.std.proofs.Common.{◌≡◌, ℕ, [], Option, Result, Ok, Err, refl, ◌∙◌}
use Rattle.input_source.specs.Tape.{Tape}
use Rattle.run_events.proofs.EventsLeft.{few-none}
use Rattle.run_events.specs.declared.halt.Halt.{Halt}
use Rattle.run_events.specs.declared.sprung.Sprung.{Sprung}
use Rattle.run_model.proofs.Keeping.{Keeps-taking}
use Rattle.run_model.proofs.ReadEvents.{AreFewBehind-taking}
use Rattle.run_model.specs.Reading.{byte_taking}
use Rattle.run_model.specs.Reading.Items.{Taking}
use Rattle.run_model.specs.Registers.{Known}
use Rattle.run_model.specs.Run.{byte_taken}
use Rattle.run_model.specs.declared.status.Status.{Status}
use Rattle.page_bytes.specs.Sinks.{Sunk}
use Rattle.run_items.specs.Outcome.{Beginning, OutcomeOf, Seen, seen}
use Rattle.run_items.specs.Performing.{DoesTaking, sinks}
use Rattle.run_turns.specs.Running.Springing.{GoesOn}
use Rattle.run_turns.specs.Running.Turning.{DoesItem}
use Rattle.run_items.specs.Halting.{Halts, line_told}
use Rattle.run_turns.specs.declared.running.Running.{Running as Coded}
use Rattle.run_turns.proofs.Acting.{halted_acts, taking_acts}

module _ (byte line : ℕ) (old : Coded) where
  -- the taking of the byte
  abbrev byte_of : Known → Taking
  byte_of k = byte_taking k old.interpreter.reader.reading old.unread.input byte

  -- it goes on behind the byte, and behind what that sprang
  pub byte_acts : {out_old err_old out_new err_new : Sunk} (mid new : Coded) (failures : ℕ) (sprung : Option Sprung) (behind : Seen) (r : Result (Unit {0}) Status)
      → mid.limits ≡ old.limits → mid.phase ≡ old.phase
      → DoesTaking byte_of [] old.interpreter mid.interpreter old.unread mid.unread (sinks out_old err_old) (sinks out_new err_new) (Ok sprung)
      → GoesOn sprung mid new (seen failures out_new err_new) behind r
      → DoesItem line (byte_taken byte) old new (seen failures out_old err_old) behind r
  byte_acts mid new failures sprung behind r limits phase takes goes =
      taking_acts byte_of (byte_taken byte) old.phase [] line old mid new failures sprung behind r (λ tape h messages. refl) limits phase takes
      (λ k. few-none (byte_of k).effect.events (AreFewBehind-taking k old.interpreter.reader.reading old.unread.input byte))
      (λ k. (Keeps-taking k old.interpreter.reader.reading old.unread.input byte).few) goes

  -- or the run halts
  pub byte_halts : {out_old err_old out_new err_new : Sunk} (new : Coded) (failures : ℕ) (halt : Halt) (status : Status) (behind : Seen) (line_behind : ℕ)
      → new.limits ≡ old.limits → old.unread.input.line ≡ line_behind
      → DoesTaking byte_of [] old.interpreter new.interpreter old.unread new.unread (sinks out_old err_old) (sinks out_new err_new) (Err halt)
      → ((t : Beginning) (left : Tape) (start : Seen) → Halts old.limits t left (line_told halt line line_behind) halt start (seen failures out_new err_new)
      → OutcomeOf old.limits t left status start behind)
      → DoesItem line (byte_taken byte) old new (seen failures out_old err_old) behind (Err status)
  byte_halts new failures halt status behind line_behind limits line_is takes ends =
      halted_acts byte_of (byte_taken byte) old.phase [] line old (λ tape h messages. refl) new failures halt status behind line_behind limits
      (λ k. (Keeps-taking k old.interpreter.reader.reading old.unread.input byte).line ∙ line_is) takes ends
