use Rattle.std.proofs.Common.{sym, ap, ◌∙◌}
use Rattle.input_escapes.specs.OpenEscapes.{byte_read}
use Rattle.input_escapes.specs.declared.open_escape.Surroundings.TheVariants.{Arguments as AboveArguments}
use Rattle.run_model.specs.Reading.ControlLines.{called_taking, line_taking, name_ended_taking}
use Rattle.run_model.specs.Reading.Collecting.{collected}
use Rattle.run_model.specs.Reading.Items.{read_by}
use Rattle.run_model.specs.Requests.{row_of}
use Rattle.run_model.specs.declared.line_state.LineState.TheVariants.{Collecting}
use Rattle.run_model.specs.declared.purpose.Purpose.TheVariants.{Calling}
use Rattle.run_model.specs.declared.request.Called.{Called}
use Rattle.read_lines.proofs.TakesAs.{TakesAs-as}
use Rattle.read_lines.proofs.LinesTaken.{TakesAs-meant}
use Rattle.read_steps.proofs.control_lines.read_behind_name.Goals as goal

pub returns-in-Request : goal.returns-in-Request
returns-in-Request c =
    let i = c.args.unread.now.input in
    let b = c.args.byte in
    let breaks = c.args.breaks in
    let request = c.in-Request.request in
    let done = c.read_first in
    TakesAs-as (λ k. line_taking k i breaks request (row_of request).line b) (λ k. name_ended_taking k i breaks c.args.name b) c.args.composer.now c.args.reader.now done.new.reader
    c.args.unread.now done.new.unread done.result (λ k. ap (λ (called : Called). called_taking k i breaks called b) c.in-Request.ensures) done.ensures

pub returns-in-Body : goal.returns-in-Body
returns-in-Body c =
    let u = c.args.unread.now in
    let b = c.args.byte in
    let breaks = c.args.breaks in
    let done = c.read_from in
    TakesAs-as (λ k. read_by (λ i. collected k i (Collecting (Calling c.in-Body.name))) u.input (byte_read AboveArguments u.input.escapes b)) (λ k. name_ended_taking k u.input breaks c.args.name b) c.args.composer.now
    c.args.reader.now done.new.reader u done.new.unread done.result (λ k. ap (λ (called : Called). called_taking k u.input breaks called b) c.in-Body.ensures) done.ensures

pub returns-in-Nothing : goal.returns-in-Nothing
returns-in-Nothing c =
    let i = c.args.unread.now.input in
    let b = c.args.byte in
    let breaks = c.args.breaks in
    let done = c.read_on in
    TakesAs-meant (λ k. name_ended_taking k i breaks c.args.name b) c.behind_dropped.result c.args.composer.now c.args.reader.now done.new.self c.args.unread.now done.result
    (λ k. sym (ap (λ (called : Called). called_taking k i breaks called b) c.in-Nothing.ensures) ∙ c.behind_dropped.ensures i)
    done.ensures.reading done.ensures.step
