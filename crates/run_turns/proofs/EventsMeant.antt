-- What an event that was put back means for a run.
use Rattle.std.proofs.Common.{ℕ, List, [], ◌∷◌, sym, ap, append-nil}
use Rattle.input_model.specs.Input.{DoAhead}
use Rattle.run_model.specs.PageEvents.{PageEvent}
use Rattle.run_model.specs.Run.{ahead_taken}
use Rattle.run_turns.specs.declared.running.Running.{Running as Coded}
use Rattle.run_turns.specs.Running.Turning.{state_at}
use Rattle.run_turns.proofs.Acting.{IsTaking}
use Rattle.run_items.proofs.EventsTaken.{event_taking}

-- that an event was put back is that taking
pub event_meant : (event : PageEvent) (old : Coded)
    → IsTaking (event_taking old.interpreter.reader.reading old.unread.input) (ahead_taken (DoAhead event)) old.phase (event ∷ []) old
event_meant event old tape h messages =
    ap (λ (told : List ℕ). record (ahead_taken (DoAhead event) (state_at tape old h messages)) { messages = told }) (sym (append-nil messages))
