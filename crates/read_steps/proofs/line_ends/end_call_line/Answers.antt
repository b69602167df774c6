use Rattle.std.proofs.Common.{refl}
use Rattle.run_model.specs.Reading.{undropped_taking}
use Rattle.run_model.specs.Reading.Calls.{call_unit}
use Rattle.run_model.specs.declared.line_state.LineState.{LineState}
use Rattle.run_model.specs.declared.line_state.LineState.TheVariants.{Collecting}
use Rattle.run_model.specs.declared.purpose.Purpose.TheVariants.{Calling}
use Rattle.input_escapes.specs.declared.open_escape.CopyUnit.TheVariants.{Byte}
use Rattle.read_lines.proofs.LinesTaken.{TakesAs-undropped}
use Rattle.read_lines.proofs.TakesAs.{TakesAs-as, TakesAs-where}
use Rattle.read_lines.proofs.TextTaken.{plain-found}
use Rattle.read_steps.proofs.line_ends.end_call_line.Goals as goal

pub returns : goal.returns
returns c = λ es.
    let old = c.args.reader.now in
    let u = c.args.unread.now in
    let done = c.call_body in
    let place : LineState = Collecting (Calling c.args.name) in
    TakesAs-undropped 10 es old done.new.self u done.new.unread done.result refl
    (TakesAs-where (λ k r. undropped_taking k r u.input 10) place es old done.new.self u done.new.unread done.result c.requires.line
    (TakesAs-as (λ k. call_unit u.input c.args.name (Byte 10)) (λ k. undropped_taking k place u.input 10) es old done.new.self u done.new.unread done.result
    (λ k. plain-found k place u.input 10 c.requires.none_half refl) (done.ensures es)))
