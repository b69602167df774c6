use Rattle.std.proofs.Common.{◌≡◌, false, rules}
use Rattle.input_model.specs.Input.{holding_plain}
use Rattle.run_model.specs.Reading.Items.{going_on}
use Rattle.run_model.specs.Reading.Messages.{message_unit}
use Rattle.run_model.specs.declared.line_state.LineState.TheVariants.{Collecting}
use Rattle.run_model.specs.declared.purpose.Purpose.TheVariants.{Telling}
use Rattle.read_lines.proofs.Strings.{message_unit-held}
use Rattle.read_lines.proofs.TakesAs.{TakesAs-as}
use Rattle.read_lines.proofs.reader.Reader.read_unit_of_message.Goals.{in_default-via-in-Byte-eq32+else-is_front, in_default-via-in-Byte+in_default, in_default-via-in_default}
use Rattle.read_lines.proofs.reader.Reader.read_unit_of_message.Goals as goal

pub returns-in_default : goal.returns-in_default
returns-in_default c = λ es.
    let u = c.args.unread.now in
    let aborts = c.args.aborts in
    let is_front = c.args.is_front in
    let unit = c.args.unit in
    let done = c.hold_plain in
    let held : going_on (holding_plain unit u.input) (Collecting (Telling aborts false)) ≡ message_unit u.input aborts is_front unit = elim c.in_default.branch [
      | in_default-via-in-Byte-eq32+else-is_front w ↦ message_unit-held u.input aborts is_front unit (λ is. search rules) (λ is front. search rules)
      | in_default-via-in-Byte+in_default w ↦ message_unit-held u.input aborts is_front unit (λ is. search rules) (λ is front. search rules)
      | in_default-via-in_default w ↦ message_unit-held u.input aborts is_front unit (λ is. search rules) (λ is front. search rules)
    ] in
    TakesAs-as (λ k. going_on (holding_plain unit u.input) (Collecting (Telling aborts false))) (λ k. message_unit u.input aborts is_front unit) es c.args.self.now
    done.new.self u done.new.unread done.result (λ k. held) (done.ensures es)
