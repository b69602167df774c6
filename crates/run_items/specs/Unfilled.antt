-- Text lines that stand in front up to their newlines, and are told and ended at once.
use Rattle.std.specs.Prelude.{◌≡◌, ℕ, true, List, [], Option, Result}
use Rattle.input_source.specs.Bytes.{newline}
use Rattle.run_model.specs.Reading.{byte_taking}
use Rattle.run_model.specs.Reading.Items.{PageUnread}
use Rattle.run_model.specs.declared.line_state.LineState.{LineState}
use Rattle.run_model.specs.declared.line_state.LineState.TheVariants.{Text as InText}
use Rattle.run_model.specs.declared.line_state.TextLine.{TextLine}
use Rattle.page_bytes.specs.Sinks.{Sunk}
use Rattle.run_events.specs.declared.formatter.Formatter.{Formatter}
use Rattle.run_events.specs.declared.halt.Halt.{Halt}
use Rattle.run_events.specs.declared.sprung.Sprung.{Sprung}
use Rattle.run_events.specs.Formatter.Telling.{TellsFront}
use Rattle.run_items.specs.declared.interpreter.Interpreter.{Interpreter}
use Rattle.run_items.specs.Performing.{DoesTaking, sinks}

-- the interpreter with this formatter, where this is read
abbrev pub told_as : Interpreter → Formatter → LineState → Interpreter
told_as old f reading = record old { formatter = f; reader = record old.reader { reading = reading } }

-- So many bytes in front were told, and then what a newline means on a text line with a glyph was done, as far as the answer says, whatever
-- is unread and was told of messages.
pub record EndsFront (front : List ℕ) (count : ℕ) (old new : Interpreter) (out_old out_new : Sunk) (result : Result (Option Sprung) Halt) : Type 0 where
  pub told : Formatter
  pub tells : TellsFront front count old.formatter told
  pub takes : (line : TextLine) (u : PageUnread) (err : Sunk) → line.has_glyph ≡ true → u.input.escapes ≡ []
      → DoesTaking (λ k. byte_taking k (InText line) u.input newline) [] (told_as old told (InText line)) new u u (sinks out_old err) (sinks out_new err) result
