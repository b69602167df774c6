-- Registers that are stepped and read at once, where their escapes stand whole in front of a text line's bytes (manual, section 8).
use Rattle.std.specs.Prelude.{◌≡◌, ℕ, ◌+◌, ◌<◌, ◌≤◌, List, [], length}
use Rattle.run_state.specs.Composer.Standing.{StandFor}
use Rattle.run_state.specs.declared.composer.Composer.{Composer as ComposerOf}
use Rattle.input_model.specs.Input.{depth, pushed}
use Rattle.input_model.specs.Unread.{IsWithin}
use Rattle.roff_num.specs.declared.direction.Direction.{Direction}
use Rattle.roff_num.specs.declared.limits.Limits.{Limits}
use Rattle.roff_num.specs.declared.short_name.ShortName.{ShortName}
use Rattle.read_lines.specs.Reader.State.{ReaderState}
use Rattle.read_lines.specs.Reader.Stepping.{StepsReader}
use Rattle.run_model.specs.Environments.{PageHistory}
use Rattle.run_model.specs.Reading.Items.{PageUnread}
use Rattle.run_model.specs.Registers.{text_of_register}
use Rattle.run_model.specs.Run.{known_at}
use Rattle.run_model.specs.Stages.{stage_of}
use Rattle.run_model.specs.TurnsToCome.{turns_to_come}
use Rattle.run_model.specs.declared.line_state.LineState.{LineState}
use Rattle.run_model.specs.declared.line_state.LineState.TheVariants.{Text as InText}
use Rattle.run_model.specs.declared.line_state.TextLine.{TextLine}
use Rattle.roff_scan.specs.Unread.Calls.{IsFront, PassesFront, front_bytes}
use Rattle.input_source.specs.Tape.{Tape}
use Rattle.read_shortcuts.specs.Registers.{IsRegisterName, with_text}
use Rattle.read_shortcuts.specs.SteppedNames.{AsksStep, step_escape}

-- The escape that steps the register of a name stands whole in front on a text line, where it is read at once: nothing is half read, and
-- the limits have room for its bytes, for the text of any number, and for what is read of that.
pub record IsStepAhead (direction : Direction) (name : ShortName) (reading : LineState) (ready : List ℕ) (u : PageUnread) : Type 0 where
  pub named : IsRegisterName name
  pub line : TextLine
  pub reads : reading ≡ InText line
  pub none_half : u.input.escapes ≡ []
  pub front : IsFront (length (step_escape direction name)) ready u
  pub is : front_bytes (length (step_escape direction name)) ready u ≡ step_escape direction name
  pub room : pushed u.input + 48 ≤ u.limits.stack
  pub shallow : depth u.input < u.limits.depth
  pub bytes : u.input.charge + 55 ≤ u.limits.bytes

-- An escape that steps a register stood whole in front and was taken at once: the register is stepped, nothing is said of it, and its text
-- is in front. Fewer turns are to come.
pub record StepsText (gave gives : Tape → Type 0) (old new : ReaderState) (es : ComposerOf) (before after : PageUnread) : Type 0 where
  pub direction : Direction
  pub bytes : List ℕ
  pub name : List ℕ
  pub text : List ℕ
  pub passed : PageUnread
  pub line : TextLine
  pub reads : old.reading ≡ InText line
  pub asked : AsksStep direction before.input.names (stage_of old.reading before.input) bytes name
  pub steps : StepsReader direction name old new
  pub passes : PassesFront gave gives bytes before passed
  pub text_is : (limits : Limits) (h : PageHistory) → StandFor limits h es → text ≡ text_of_register (known_at h new.registers.all passed.input) name
  pub put : after ≡ with_text text passed
  pub fewer : turns_to_come after < turns_to_come before
  pub half : after.input.escapes ≡ before.input.escapes
  pub within : IsWithin after
