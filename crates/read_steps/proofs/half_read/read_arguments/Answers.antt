use Rattle.std.proofs.Common.{ap}
use Rattle.read_lines.specs.Reader.State.{ReaderState}
use Rattle.run_model.specs.Reading.Found.{found_in}
use Rattle.run_model.specs.declared.line_state.LineState.{LineState}
use Rattle.run_model.specs.declared.line_state.LineState.TheVariants.{Collecting}
use Rattle.run_model.specs.declared.purpose.Purpose.TheVariants.{Arguments as InArguments}
use Rattle.read_lines.proofs.TakesAs.{TakesAs-set}
use Rattle.read_steps.proofs.half_read.read_arguments.Goals as goal

pub returns : goal.returns
returns c =
    let u = c.args.unread.now in
    let place : LineState = Collecting (InArguments c.args.breaks c.args.request) in
    let done = c.read_collected in
    let set : ReaderState = record { reading = place; registers = c.reader.inside.lasting; meaning = c.reader.inside.meaning } in
    TakesAs-set (λ k. found_in k u.input place c.args.found) c.args.composer.now c.args.reader.now set done.new.reader u done.new.unread done.result
    (ap (λ (s : ReaderState). s.registers) c.reader.view_is) done.ensures
