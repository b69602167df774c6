-- What is half read ended at once, and meant nothing.
use Rattle.std.specs.Prelude.{◌≡◌}
use Rattle.input_model.specs.Unread.{IsWithin}
use Rattle.run_turns.specs.declared.running.Running.{Running as Coded}
use Rattle.run_model.specs.Reading.{escape_ended}
use Rattle.run_model.specs.Reading.Items.{going_on}
use Rattle.run_model.specs.Registers.{Known}

-- What is half read ended as the definition ends it, whatever is known of the run, and meant nothing: only what is read and half read
-- changed, and no count is above its limit behind it.
pub record EndsAtOnce (old new : Coded) : Type 0 where
  pub ended : (k : Known) → escape_ended k old.interpreter.reader.reading old.unread.input ≡ going_on new.unread.input new.interpreter.reader.reading
  pub ahead : new.unread.input.ahead ≡ old.unread.input.ahead
  pub within : IsWithin new.unread
  pub is : new ≡ record old {
    unread = record old.unread { input = new.unread.input };
    interpreter = record old.interpreter { reader = record old.interpreter.reader { reading = new.interpreter.reader.reading } };
  }
