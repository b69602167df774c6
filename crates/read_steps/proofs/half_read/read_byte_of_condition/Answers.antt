use Rattle.std.proofs.Common.{refl}
use Rattle.input_escapes.specs.declared.open_escape.Surroundings.TheVariants.{Arguments as AboveArguments}
use Rattle.run_model.specs.Reading.Branches.{condition_found}
use Rattle.read_lines.proofs.TakesAs.{TakesAs-read_at}
use Rattle.read_steps.proofs.half_read.read_byte_of_condition.Goals as goal

pub returns : goal.returns
returns c =
    let old = c.args.reader.now in
    let read = c.read_byte-found in
    let done = c.read_in_condition in
    TakesAs-read_at (λ k i found. condition_found k i c.args.keeps found) (λ k. AboveArguments) AboveArguments c.args.composer.now (λ l h rs i stands. refl) old done.new.reader c.args.unread.now
    read.new.self done.new.unread read.result done.result c.args.byte read.ensures.reading done.ensures
