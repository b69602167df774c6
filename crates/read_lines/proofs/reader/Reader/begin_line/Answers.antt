use Rattle.std.proofs.Common.{◌≡◌, rules, ap}
use Rattle.read_lines.specs.Reader.State.{ReaderState}
use Rattle.run_model.specs.Reading.Beginnings.{first_name}
use Rattle.run_model.specs.Reading.TextLines.{motion_taking}
use Rattle.input_escapes.specs.declared.open_escape.CopyUnit.TheVariants.{Byte, Kept}
use Rattle.input_escapes.specs.declared.open_escape.Found.TheVariants.{Unit}
use Rattle.read_lines.proofs.TakesAs.{TakesAs-set}
use Rattle.read_lines.proofs.LinesTaken.{TakesAs-begun}
use Rattle.read_lines.proofs.reader.Reader.begin_line.Goals as goal

pub returns-in-Asks : goal.returns-in-Asks
returns-in-Asks c =
    let u = c.args.unread.now in
    let set : ReaderState = record { reading = c.args.at; registers = c.self.inside.lasting; meaning = c.self.inside.meaning } in
    let done = c.begin_with_name in
    rw c.in-Asks.is
    (TakesAs-set (λ k. first_name k u.input c.args.at c.in-Asks.purpose c.in-Asks.name) c.args.composer.now c.args.self.now set done.new.self u
    done.new.unread done.result (ap (λ (s : ReaderState). s.registers) c.self.view_is) done.ensures)

pub returns-in-Unit-Byte : goal.returns-in-Unit-Byte
returns-in-Unit-Byte c =
    let is : c.args.found ≡ Unit (Byte c.in-Unit-Byte.byte) = search rules in
    rw is (c.begin_with.ensures c.args.unread.now)

pub returns-in-Unit-Kept : goal.returns-in-Unit-Kept
returns-in-Unit-Kept c =
    let is : c.args.found ≡ Unit (Kept c.in-Unit-Kept.byte) = search rules in
    rw is (c.begin_with_escape.ensures c.args.unread.now)

pub returns-in-Escape : goal.returns-in-Escape
returns-in-Escape c = rw c.in-Escape.is (c.begin_with_escape-in-Escape.ensures c.args.unread.now)

pub returns-in-Holds : goal.returns-in-Holds
returns-in-Holds c = rw c.in-Holds.is (c.hold_text.ensures c.args.composer.now)

pub returns-in-Motion : goal.returns-in-Motion
returns-in-Motion c =
    let columns = c.in-Motion.columns in
    let remark = c.in-Motion.remark in
    let done = c.begin_text in
    rw c.in-Motion.is
    (TakesAs-begun (λ i line. motion_taking i line columns remark) c.motion-step.result c.interrupted_line-interrupted.result c.begun_as.result
    c.args.composer.now c.args.self.now done.new.self c.args.unread.now done.result (λ l h stands. c.interrupted_line-interrupted.ensures l h stands.environments) c.begun_as.ensures
    c.motion-step.ensures done.ensures.now done.ensures.says done.ensures.events)

pub returns-in-Measures : goal.returns-in-Measures
returns-in-Measures c = rw c.in-Measures.is (c.measure.ensures c.args.composer.now)

pub returns-in-Tells : goal.returns-in-Tells
returns-in-Tells c = rw c.in-Tells.is (c.tell.ensures c.args.composer.now c.args.unread.now)
