-- Laws of lines that tell a message with an escape in it (manual, sections 8 and 20).
use Rattle.std.specs.Prelude.{◌≡◌, ℕ, ◌+◌, ◌≤◌, Bool, true, false, List, [], ◌∷◌, ◌++◌, length, map, All, Some}
use Rattle.roff_num.specs.declared.limits.Limits.{Limits}
use Rattle.roff_num.specs.declared.short_name.ShortName.{ShortName}
use Rattle.roff_num.specs.ShortNames.{name_bytes}
use Rattle.input_source.specs.Bytes.{blank, newline, behind_blanks}
use Rattle.input_model.specs.Input.{Ahead, ByteAhead, depth, pushed}
use Rattle.input_escapes.specs.declared.escapes.NameUse.{NameUse}
use Rattle.input_escapes.specs.declared.escapes.NameUse.TheVariants.{Register}
use Rattle.law_reading.specs.CallLaws.{BeginsLine}
use Rattle.law_reading.specs.InterpolationLaws.{IsEscapeOf, StandsForItself, text_named}
use Rattle.law_reading.specs.MessageLaws.{HasMessage}
use Rattle.run_model.specs.Messages.{told_line}
use Rattle.run_model.specs.Run.{State, after, known}
use Rattle.run_model.specs.Within.{IsWithin}
use Rattle.run_model.specs.PageEvents.{PageEvent}

-- whether an escape steps the register that it reads
abbrev pub steps : NameUse → Bool
steps (Register (Some direction)) = true
steps (_) = false

-- a line that begins so and has this name, and behind a blank this text, with an escape in it
abbrev pub message_line : ℕ → ShortName → List ℕ → List ℕ → List ℕ → List ℕ
message_line control name front escape behind =
    (control ∷ name_bytes name ++ blank ∷ front) ++ (escape ++ (behind ++ newline ∷ []))

-- A message with an escape in it tells what is read: the text that the escape stands for, in its place. Each byte of the line and
-- of that text is a step, and costs one; so does the text's end, and telling is a step of its own. There is room for the text
-- beside all that stands ahead.
abbrev pub MessagesTellWhatIsRead : Type 0
MessagesTellWhatIsRead =
    (l : Limits) (s : State) (control : ℕ) (name : ShortName) (front behind : List ℕ) (purpose : NameUse) (named escape : List ℕ)
    (rest : List (Ahead PageEvent)) →
    BeginsLine s → HasMessage s.input.names control name → IsEscapeOf purpose named escape → steps purpose ≡ false →
    All StandsForItself front → All StandsForItself behind →
    let text : List ℕ = text_named (known s) s.input purpose named in
    All StandsForItself text →
    let line : List ℕ = message_line control name front escape behind in
    s.input.ahead ≡ map ByteAhead line ++ rest →
    let told : State =
    record s {
      input = record s.input { ahead = rest; charge = s.input.charge + length line + length text + 1 };
      messages = s.messages ++ told_line false (behind_blanks ((front ++ text) ++ behind));
    } in
    pushed s.input + length text ≤ l.stack → depth s.input + 1 ≤ l.depth → IsWithin l s → IsWithin l told →
    after l (length line + length text + 2) s ≡ told
