-- The texts of messages (manual, section 20).
use Rattle.std.specs.Prelude.{ℕ, Bool, true, false, ◌&&◌, List, reverse, if◌then◌else◌, ◌==◌}
use Rattle.input_source.specs.Bytes.{newline, blank}
use Rattle.input_model.specs.Input.{holding_plain}
use Rattle.input_escapes.specs.declared.open_escape.CopyUnit.{CopyUnit}
use Rattle.input_escapes.specs.declared.open_escape.CopyUnit.TheVariants.{Byte, Kept}
use Rattle.run_model.specs.declared.line_state.LineState.TheVariants.{Told, Collecting}
use Rattle.run_model.specs.declared.purpose.Purpose.TheVariants.{Telling}
use Rattle.run_model.specs.Reading.Items.{PageInput, Taking, going_on}

-- a unit of a message's text: in front of it blanks are dropped; a newline ends it
abbrev pub message_unit : PageInput → Bool → Bool → CopyUnit → Taking
message_unit i aborts is_front (Byte b) =
    if b == newline then going_on i (Told aborts)
    else if is_front && b == blank then going_on i (Collecting (Telling aborts true))
    else going_on (holding_plain (Byte b) i) (Collecting (Telling aborts false))
message_unit i aborts is_front (Kept b) = going_on (holding_plain (Kept b) i) (Collecting (Telling aborts false))

-- the text of a message, as it was read
abbrev pub message_text_read : PageInput → List ℕ
message_text_read i = reverse i.arguments.begun
