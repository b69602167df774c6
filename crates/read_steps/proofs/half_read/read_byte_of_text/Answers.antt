use Rattle.run_model.specs.Reading.TextLines.{on_line, text_found}
use Rattle.read_lines.proofs.TakesAs.{TakesAs-read_at}
use Rattle.read_steps.proofs.half_read.read_byte_of_text.Goals as goal

pub returns : goal.returns
returns c =
    let old = c.args.reader.now in
    let read = c.read_byte-found in
    let done = c.read_text in
    TakesAs-read_at (λ k i found. text_found k i c.args.line found) (λ k. on_line k c.args.line) c.on_line.result c.args.composer.now c.on_line.ensures old done.new.self c.args.unread.now
    read.new.self done.new.unread read.result done.result c.args.byte read.ensures.reading done.ensures
