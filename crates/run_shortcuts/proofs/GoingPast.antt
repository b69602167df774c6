-- Runs that go past bytes: the run of the definition leads on, and the code is at its place behind them.
use Rattle.std.proofs.Common.{◌≡◌, ℕ, List, [], sym, subst}
use Rattle.std.specs.Io.KnownBytes.{Appends}
use Rattle.input_source.specs.Tape.{Tape}
use Rattle.run_state.specs.Composer.Standing.{StandFor}
use Rattle.run_model.specs.Output.{PageHistory, written}
use Rattle.read_lines.specs.Reader.Taken.{IsReady}
use Rattle.run_model.specs.Reading.Items.{PageUnread}
use Rattle.run_items.specs.Room.{FewFor}
use Rattle.run_model.specs.Run.{Leads, initial}
use Rattle.run_items.specs.declared.interpreter.Interpreter.{Interpreter}
use Rattle.run_turns.specs.declared.running.Running.{Running as Coded}
use Rattle.run_items.specs.Outcome.{Beginning, Seen}
use Rattle.run_turns.specs.Running.Turning.{IsAt, state_at}
use Rattle.run_model.proofs.Leads.{Leads-trans}

-- the code is at its place where the run of the definition leads on, and nothing is written or reported
pub IsAt-leads : (whole : Beginning) (before behind : Tape) (start now : Seen) (old : Coded) (f : Interpreter) (u : PageUnread) (h : PageHistory) (at : IsAt whole before start now old)
    → Leads old.limits (state_at before old at.history at.messages) (state_at behind (record old { interpreter = f; unread = u }) h at.messages)
    → written h ≡ written at.history → StandFor old.limits h f.formatter.composer → IsReady f.reader.registers u → u.limits ≡ old.limits → FewFor [] f.reader.reading u.input.escapes u.input.ahead
    → IsAt whole behind start now (record old { interpreter = f; unread = u })
IsAt-leads whole before behind start now old f u h at leads nothing stands ready limits few = record {
  history = h;
  messages = at.messages;
  reaches = record {
    comes = Leads-trans old.limits (initial old.limits whole.start whole.tape) (state_at before old at.history at.messages)
        (state_at behind (record old { interpreter = f; unread = u }) h at.messages) at.reaches.comes leads;
    text = subst (λ (bytes : List ℕ). Appends start.out.contents now.out.contents bytes) (sym nothing) at.reaches.text;
    messages = at.reaches.messages;
    faults = at.reaches.faults;
    room = at.reaches.room;
  };
  stands = stands;
  ready = ready;
  limits = limits;
  few = few;
}
