use Rattle.std.proofs.Common.{ap}
use Rattle.read_lines.specs.Reader.State.{ReaderState}
use Rattle.run_model.specs.Reading.Escapes.{asking}
use Rattle.read_lines.proofs.TakesAs.{TakesAs-set}
use Rattle.read_lines.proofs.reader.Reader.read_in_arguments.Goals as goal

pub returns-in-Holds : goal.returns-in-Holds
returns-in-Holds c = rw c.in-Holds.is (c.hold_text.ensures c.args.composer.now)

pub returns-in-Asks : goal.returns-in-Asks
returns-in-Asks c =
    let u = c.args.unread.now in
    let set : ReaderState = record { reading = c.args.reading; registers = c.self.inside.lasting; meaning = c.self.inside.meaning } in
    rw c.in-Asks.is
    (TakesAs-set (λ k. asking k u.input c.args.reading c.in-Asks.purpose c.in-Asks.name) c.args.composer.now c.args.self.now set c.ask.new.self u
    c.ask.new.unread c.ask.result (ap (λ (s : ReaderState). s.registers) c.self.view_is) c.ask.ensures)

pub returns-in-Measures : goal.returns-in-Measures
returns-in-Measures c = rw c.in-Measures.is (c.measure.ensures c.args.composer.now)

pub returns-in-Tells : goal.returns-in-Tells
returns-in-Tells c = rw c.in-Tells.is (c.tell.ensures c.args.composer.now c.args.unread.now)
