use Rattle.std.proofs.Common.{refl}
use Rattle.run_model.specs.Reading.{undropped_taking}
use Rattle.run_model.specs.Reading.Arguments.{arguments_ended}
use Rattle.run_model.specs.Requests.{row_of}
use Rattle.run_model.specs.declared.line_state.LineState.{LineState}
use Rattle.run_model.specs.declared.line_state.LineState.TheVariants.{Collecting}
use Rattle.run_model.specs.declared.purpose.Purpose.TheVariants.{Arguments as InArguments}
use Rattle.read_lines.proofs.LinesTaken.{TakesAs-undropped}
use Rattle.read_lines.proofs.TakesAs.{TakesAs-as, TakesAs-where}
use Rattle.read_lines.proofs.TextTaken.{plain-found}
use Rattle.read_steps.proofs.line_ends.end_request.Goals as goal

pub returns : goal.returns
returns c =
    let es = c.args.composer.now in
    let old = c.args.reader.now in
    let u = c.args.unread.now in
    let done = c.end_arguments in
    let place : LineState = Collecting (InArguments c.args.breaks c.args.request) in
    TakesAs-undropped 10 es old done.new.reader u done.new.unread done.result refl
    (TakesAs-where (λ k r. undropped_taking k r u.input 10) place es old done.new.reader u done.new.unread done.result c.requires.line
    (TakesAs-as (λ k. arguments_ended k u.input c.args.breaks c.args.request (row_of c.args.request).line) (λ k. undropped_taking k place u.input 10) es old done.new.reader u done.new.unread done.result
    (λ k. plain-found k place u.input 10 c.requires.none_half refl) done.ensures))
