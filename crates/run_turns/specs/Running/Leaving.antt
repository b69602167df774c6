-- How a run of the code leaves its input (manual, section 20).
use Rattle.std.specs.Prelude.{◌≡◌, None, Ok}
use Rattle.input_model.specs.Input.{leaving, outermost_back}
use Rattle.run_events.specs.Formatter.Performing.{PerformsEvents}
use Rattle.run_model.specs.Reading.Returns.{going_back, gone_back_to}
use Rattle.run_model.specs.declared.line_state.LineState.{LineState}
use Rattle.page_bytes.specs.Sinks.{Sunk}
use Rattle.run_model.specs.declared.line_state.LineState.TheVariants.{LineStart}
use Rattle.run_model.specs.declared.phase.Phase.{Phase}
use Rattle.run_model.specs.declared.phase.Phase.TheVariants.{Reading, LastMacro, Closing}
use Rattle.input_model.specs.Looking.{closing}
use Rattle.run_turns.specs.declared.running.Running.{Running as Coded}

-- this is read on, and what going back to it means was performed
pub record GoesBack (reading : LineState) (old new : Coded) : Type 0 where
  pub is : new ≡ record old {
    interpreter = record old.interpreter {
      formatter = new.interpreter.formatter;
      reader = record old.interpreter.reader { reading = reading };
    };
  }
  pub performs : (told : Sunk)
      → PerformsEvents (going_back reading) old.interpreter.formatter new.interpreter.formatter told told (Ok None)

-- what stands ahead of the source was dropped, and what is read is what all ends of bodies lead back to
abbrev pub DropsAhead : Coded → Coded → Type 0
DropsAhead old new =
    GoesBack (gone_back_to (outermost_back 0 old.unread.input.ahead))
    (record old { unread = record old.unread { input = leaving old.unread.input; looked = closing old.unread.looked } }) new

-- a line begins
abbrev pub BeginsLine : Coded → Coded → Type 0
BeginsLine old new = new ≡ record old {
  interpreter = record old.interpreter { reader = record old.interpreter.reader { reading = LineStart } };
}

-- the input was left, but as the run closes
abbrev pub LeavesIn : Phase → Coded → Coded → Type 0
LeavesIn Reading old new = DropsAhead old new
LeavesIn LastMacro old new = DropsAhead old new
LeavesIn Closing old new = BeginsLine old new

abbrev pub LeavesInput : Coded → Coded → Type 0
LeavesInput old new = LeavesIn old.phase old new
