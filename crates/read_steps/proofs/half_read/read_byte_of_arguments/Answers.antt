use Rattle.std.proofs.Common.{refl}
use Rattle.input_escapes.specs.declared.open_escape.Surroundings.TheVariants.{Arguments as AboveArguments}
use Rattle.run_model.specs.Reading.Found.{found_in}
use Rattle.run_model.specs.declared.line_state.LineState.TheVariants.{Collecting}
use Rattle.run_model.specs.declared.purpose.Purpose.TheVariants.{Arguments as InArguments}
use Rattle.read_lines.proofs.TakesAs.{TakesAs-read_at}
use Rattle.read_steps.proofs.half_read.read_byte_of_arguments.Goals as goal

pub returns : goal.returns
returns c =
    let old = c.args.reader.now in
    let read = c.read_byte-found in
    let done = c.read_among_arguments in
    TakesAs-read_at (λ k i found. found_in k i (Collecting (InArguments c.args.breaks c.args.request)) found) (λ k. AboveArguments) AboveArguments c.args.composer.now (λ l h rs i stands. refl) old done.new.reader c.args.unread.now
    read.new.self done.new.unread read.result done.result c.args.byte read.ensures.reading done.ensures
