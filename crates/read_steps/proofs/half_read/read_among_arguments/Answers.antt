use Rattle.input_escapes.specs.declared.open_escape.Found.TheVariants.{GoesOn}
use Rattle.run_model.specs.Reading.Units.{no_unit_found}
use Rattle.run_model.specs.declared.line_state.LineState.{LineState}
use Rattle.run_model.specs.declared.line_state.LineState.TheVariants.{Collecting}
use Rattle.run_model.specs.declared.purpose.Purpose.TheVariants.{Arguments as InArguments}
use Rattle.read_lines.proofs.TakesAs.{TakesAs-settled}
use Rattle.read_steps.proofs.half_read.read_among_arguments.Goals as goal

pub returns-in-GoesOn : goal.returns-in-GoesOn
returns-in-GoesOn c =
    let place : LineState = Collecting (InArguments c.args.breaks c.args.request) in
    let done = c.read_in_arguments in
    rw c.in-GoesOn.is
    (TakesAs-settled place (λ k i. no_unit_found k i place GoesOn) c.args.composer.now c.args.reader.now done.new.self c.args.unread.now c.settle.new.self done.new.unread done.result
    c.settle.ensures.change done.ensures)
