use Rattle.std.specs.Prelude.{true}
use Rattle.run_model.specs.Reading.ControlLines.{dropped_taking, name_ended_taking}
use Rattle.read_steps.proofs.EndedDefinitions.{TakesAs-line_begun}
use Rattle.read_lines.proofs.LinesTaken.{TakesAs-meant}
use Rattle.read_steps.proofs.definitions.read_behind_definition.Goals as goal

pub returns-in-Some : goal.returns-in-Some
returns-in-Some c =
    let u = c.args.unread.now in
    let name = c.in-Some.end in
    let done = c.read_behind_name in
    rw c.in-Some.is
    (TakesAs-line_begun (λ k i. name_ended_taking k i true name c.args.byte) c.args.composer.now c.args.reader.now done.new.reader u c.begin_line.new.self done.new.unread
    done.result c.begin_line.ensures.change done.ensures)

pub returns-in-None : goal.returns-in-None
returns-in-None c =
    let u = c.args.unread.now in
    rw c.in-None.is
    (TakesAs-meant (λ k. dropped_taking u.input c.args.byte) c.behind_dropped.result c.args.composer.now c.args.reader.now c.read_on.new.self u c.read_on.result
    (λ k. c.behind_dropped.ensures u.input) c.read_on.ensures.reading c.read_on.ensures.step)
