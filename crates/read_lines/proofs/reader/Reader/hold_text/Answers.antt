use Rattle.std.proofs.Common.{◌≡◌, Err, rules}
use Rattle.input_model.specs.Input.{holding_text}
use Rattle.read_lines.proofs.LinesTaken.{TakesAs-changed, TakesAs-not_changed}
use Rattle.read_lines.proofs.reader.Reader.hold_text.Goals as goal

pub returns-in_err-hold_text : goal.returns-in_err-hold_text
returns-in_err-hold_text c = λ es.
    let old = c.args.self.now in
    let u = c.args.unread.now in
    let refused : c.from_residual.result ≡ Err c.in_err-hold_text.field-0.0 = search rules in
    rw refused
    (TakesAs-not_changed (holding_text c.args.unit u.input) c.args.reading es old old u c.hold_text.new.self c.in_err-hold_text.field-0.0 c.in_err-hold_text.ensures.change)

pub returns : goal.returns
returns c = λ es.
    let u = c.args.unread.now in
    TakesAs-changed (holding_text c.args.unit u.input) c.args.reading es c.args.self.now c.read_on.new.self u c.hold_text.new.self c.read_on.result
    c.in_ok-hold_text.field-0 c.in_ok-hold_text.ensures.change c.read_on.ensures.reading c.read_on.ensures.step
