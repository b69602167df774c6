use Rattle.std.proofs.Common.{◌≡◌, Err, false, rules}
use Rattle.input_model.specs.Input.{holding_plain}
use Rattle.run_model.specs.declared.line_state.LineState.{LineState}
use Rattle.run_model.specs.declared.line_state.LineState.TheVariants.{Collecting}
use Rattle.run_model.specs.declared.purpose.Purpose.TheVariants.{Telling}
use Rattle.read_lines.proofs.LinesTaken.{TakesAs-changed, TakesAs-not_changed}
use Rattle.read_lines.proofs.reader.Reader.hold_plain.Goals as goal

pub returns-in_err-hold_plain : goal.returns-in_err-hold_plain
returns-in_err-hold_plain c = λ es.
    let old = c.args.self.now in
    let u = c.args.unread.now in
    let place : LineState = Collecting (Telling c.args.aborts false) in
    let refused : c.from_residual.result ≡ Err c.in_err-hold_plain.field-0.0 = search rules in
    rw refused
    (TakesAs-not_changed (holding_plain c.args.unit u.input) place es old old u c.hold_plain.new.self c.in_err-hold_plain.field-0.0 c.in_err-hold_plain.ensures.change)

pub returns : goal.returns
returns c = λ es.
    let u = c.args.unread.now in
    let place : LineState = Collecting (Telling c.args.aborts false) in
    TakesAs-changed (holding_plain c.args.unit u.input) place es c.args.self.now c.read_on.new.self u c.hold_plain.new.self c.read_on.result
    c.in_ok-hold_plain.field-0 c.in_ok-hold_plain.ensures.change c.read_on.ensures.reading c.read_on.ensures.step
