use Rattle.std.proofs.Common.{◌≡◌, Ok, true, rules}
use Rattle.input_source.specs.Bytes.{is_dropped}
use Rattle.run_model.specs.Reading.{byte_taking}
use Rattle.run_model.specs.Reading.Units.{interrupted}
use Rattle.run_model.specs.Reading.Items.{going_on}
use Rattle.run_model.specs.declared.step.Step.TheVariants.{Nothing}
use Rattle.read_lines.proofs.TakesAs.{TakesAs-as, TakesAs-interrupted}
use Rattle.read_lines.proofs.LinesTaken.{TakesAs-undropped, taking-of}
use Rattle.read_steps.proofs.reading.read_half.Goals as goal

pub returns-then-is_dropped : goal.returns-then-is_dropped
returns-then-is_dropped c =
    let es = c.args.composer.now in
    let old = c.args.reader.now in
    let u = c.args.unread.now in
    let b = c.args.byte in
    let is : true ≡ is_dropped b = search rules in
    TakesAs-as (λ k. going_on (interrupted old.reading u.input) old.reading) (λ k. byte_taking k old.reading u.input b) es old old u c.interrupt.new.unread (Ok Nothing)
    (λ k. taking-of k old.reading u.input b true is)
    (TakesAs-interrupted es old u c.interrupt.new.unread c.interrupt.ensures)

pub returns : goal.returns
returns c =
    let done = c.read_undropped in
    TakesAs-undropped c.args.byte c.args.composer.now c.args.reader.now done.new.reader c.args.unread.now done.new.unread done.result (search rules) done.ensures
