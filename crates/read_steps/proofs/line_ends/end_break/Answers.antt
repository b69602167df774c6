use Rattle.std.proofs.Common.{Ok, refl}
use Rattle.run_model.specs.Reading.{undropped_taking}
use Rattle.run_model.specs.Reading.Arguments.{line_ended}
use Rattle.run_model.specs.declared.line_state.LineState.{LineState}
use Rattle.run_model.specs.declared.line_state.LineState.TheVariants.{Collecting}
use Rattle.run_model.specs.declared.purpose.Purpose.TheVariants.{Arguments as InArguments}
use Rattle.run_model.specs.declared.request.Request.TheVariants.{Break}
use Rattle.read_lines.proofs.LinesTaken.{TakesAs-undropped}
use Rattle.read_lines.proofs.TakesAs.{TakesAs-as, TakesAs-where}
use Rattle.read_lines.proofs.TextTaken.{plain-found}
use Rattle.read_steps.proofs.line_ends.end_break.Goals as goal

pub returns : goal.returns
returns c = λ es.
    let old = c.args.reader.now in
    let u = c.args.unread.now in
    let done = c.obey_break in
    let place : LineState = Collecting (InArguments c.args.breaks Break) in
    TakesAs-undropped 10 es old done.new.reader u done.new.unread (Ok done.result) refl
    (TakesAs-where (λ k r. undropped_taking k r u.input 10) place es old done.new.reader u done.new.unread (Ok done.result) c.requires.line
    (TakesAs-as (λ k. line_ended k u.input c.args.breaks Break) (λ k. undropped_taking k place u.input 10) es old done.new.reader u done.new.unread (Ok done.result)
    (λ k. plain-found k place u.input 10 c.requires.none_half refl) (done.ensures es)))
