use Rattle.run_model.specs.Reading.Found.{found_in, place_in}
use Rattle.read_lines.proofs.TakesAs.{TakesAs-read_at}
use Rattle.read_steps.proofs.bytes.read_placed.Goals as goal

pub returns : goal.returns
returns c =
    let old = c.args.reader.now in
    let r = old.reading in
    let read = c.read_byte-found in
    let done = c.read_found in
    TakesAs-read_at (λ k i found. found_in k i r found) (λ k. place_in k r) c.place-place.result c.args.composer.now c.place-place.ensures old done.new.reader c.args.unread.now
    read.new.self done.new.unread read.result done.result c.args.byte read.ensures.reading done.ensures
