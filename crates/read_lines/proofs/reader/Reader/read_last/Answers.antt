use Rattle.std.proofs.Common.{Ok, refl, subst}
use Rattle.read_lines.specs.Reader.Taken.{TakesAs}
use Rattle.run_model.specs.Reading.Calls.{called_last}
use Rattle.run_model.specs.Reading.Items.{going_on}
use Rattle.run_model.specs.declared.line_state.LineState.TheVariants.{LineStart}
use Rattle.run_model.specs.declared.request.Called.{Called}
use Rattle.read_lines.proofs.LinesTaken.{TakesAs-meant}
use Rattle.read_lines.proofs.reader.Reader.read_last.Goals as goal

pub returns-in-Body : goal.returns-in-Body
returns-in-Body c = λ es.
    let old = c.args.self.now in
    let u = c.args.unread.now in
    let done = c.read_last_body in
    subst (λ (called : Called). TakesAs (λ k. going_on (called_last called u.input) LineStart) es old done.new.self u done.new.unread done.result)
    c.in-Body.ensures (done.ensures es)

pub returns-in-Request : goal.returns-in-Request
returns-in-Request c = λ es.
    let old = c.args.self.now in
    let u = c.args.unread.now in
    let read = c.read_on in
    subst (λ (called : Called). TakesAs (λ k. going_on (called_last called u.input) LineStart) es old read.new.self u u (Ok read.result))
    c.in-Request.ensures
    (TakesAs-meant (λ k. going_on u.input LineStart) LineStart es old read.new.self u read.result (λ k. refl) read.ensures.reading read.ensures.step)

pub returns-in-Nothing : goal.returns-in-Nothing
returns-in-Nothing c = λ es.
    let old = c.args.self.now in
    let u = c.args.unread.now in
    let read = c.read_on-in-Nothing in
    subst (λ (called : Called). TakesAs (λ k. going_on (called_last called u.input) LineStart) es old read.new.self u u (Ok read.result))
    c.in-Nothing.ensures
    (TakesAs-meant (λ k. going_on u.input LineStart) LineStart es old read.new.self u read.result (λ k. refl) read.ensures.reading read.ensures.step)
