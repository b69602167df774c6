-- Bytes that the reader takes at once, by the stages to which they lead.
use Rattle.std.specs.Prelude.{◌≡◌, ◌≤◌, ℕ, List, [], ◌∷◌, ◌++◌, None, length}
use Rattle.input_source.specs.Bytes.{newline}
use Rattle.input_source.specs.Tape.{Tape}
use Rattle.input_model.specs.Unread.{IsWithin}
use Rattle.roff_scan.specs.Unread.Calls.{NoNewline, PassesFront}
use Rattle.run_model.specs.Reading.Ends.{due}
use Rattle.read_lines.specs.Reader.State.{ReaderState}
use Rattle.run_model.specs.Reading.Items.{PageUnread}
use Rattle.run_model.specs.Stages.{stage_of, Turned}
use Rattle.roff_scan.specs.Unread.Runs.{with_stage_of}

-- Bytes that came next were read at once, and changed only what is read: they lead from the stage before to the one behind
-- them, and are taken as bytes are that change nothing. No count is above its limit behind them.
pub record ReadsPast (gave gives : Tape → Type 0) (old new : ReaderState) (before after : PageUnread) : Type 0 where
  pub bytes : List ℕ
  pub turned : Turned before.input.names (stage_of old.reading before.input) bytes (stage_of new.reading after.input)
  pub passes : PassesFront gave gives bytes before (record after { input = with_stage_of before.input after.input })
  pub registers : new.registers ≡ old.registers
  pub meaning : new.meaning ≡ old.meaning
  pub within : IsWithin after

-- Bytes that came next were read at once up to a newline, and that was taken too, and isn't read yet: they lead from the stage before to
-- the one in front of the newline, where nothing is half read and nothing is due. No count is above its limit there.
pub record ReadsLine (gave gives : Tape → Type 0) (old new : ReaderState) (before after : PageUnread) : Type 0 where
  pub bytes : List ℕ
  pub turned : Turned before.input.names (stage_of old.reading before.input) bytes (stage_of new.reading after.input)
  pub some : 1 ≤ length bytes
  pub plain : NoNewline bytes
  pub passes : PassesFront gave gives (bytes ++ newline ∷ []) (record before { input = with_stage_of after.input before.input }) after
  pub within : IsWithin (record before { input = with_stage_of after.input before.input })
  pub registers : new.registers ≡ old.registers
  pub meaning : new.meaning ≡ old.meaning
  pub none_half : after.input.escapes ≡ []
  pub none_due : due new.reading ≡ None
