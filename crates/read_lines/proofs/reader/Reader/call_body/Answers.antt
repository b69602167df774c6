use Rattle.std.proofs.Common.{◌≡◌, Err, rules}
use Rattle.run_model.specs.declared.line_state.LineState.TheVariants.{LineStart}
use Rattle.input_model.specs.Input.Calls.{calling_body}
use Rattle.input_model.specs.Input.Names.{body_named}
use Rattle.roff_num.specs.ShortNames.{name_bytes}
use Rattle.read_lines.proofs.LinesTaken.{TakesAs-changed, TakesAs-not_changed}
use Rattle.read_lines.proofs.reader.Reader.call_body.Goals as goal

pub returns : goal.returns
returns c = λ es.
    let u = c.args.unread.now in
    let called = calling_body (body_named (name_bytes c.args.name) u.input) u.input in
    TakesAs-changed called LineStart es c.args.self.now c.read_on.new.self u c.call.new.self c.read_on.result c.in_ok-call.field-0 (search rules)
    c.read_on.ensures.reading c.read_on.ensures.step

pub returns-in_err-call : goal.returns-in_err-call
returns-in_err-call c = λ es.
    let old = c.args.self.now in
    let u = c.args.unread.now in
    let called = calling_body (body_named (name_bytes c.args.name) u.input) u.input in
    let limit = c.in_err-call.field-0.0 in
    let refused : c.from_residual.result ≡ Err limit = search rules in
    rw refused (TakesAs-not_changed called LineStart es old old u c.call.new.self limit (search rules))
