use Rattle.std.proofs.Common.{ap}
use Rattle.input_escapes.specs.OpenEscapes.{byte_read}
use Rattle.read_lines.specs.Reader.State.{ReaderState}
use Rattle.run_model.specs.Reading.Collecting.{collected}
use Rattle.run_model.specs.Reading.Found.{place_in}
use Rattle.run_model.specs.Reading.Items.{read_by}
use Rattle.read_lines.proofs.TakesAs.{TakesAs-read_at, TakesAs-set}
use Rattle.read_steps.proofs.found.read_from.Goals as goal

pub returns : goal.returns
returns c =
    let es = c.args.composer.now in
    let u = c.args.unread.now in
    let r = c.args.reading in
    let read = c.read_byte-found in
    let done = c.read_collected in
    let set : ReaderState = record { reading = r; registers = c.reader.inside.lasting; meaning = c.reader.inside.meaning } in
    TakesAs-set (λ k. read_by (λ i. collected k i r) u.input (byte_read (place_in k r) u.input.escapes c.args.byte)) es c.args.reader.now set done.new.reader u done.new.unread done.result
    (ap (λ (s : ReaderState). s.registers) c.reader.view_is)
    (TakesAs-read_at (λ k i found. collected k i r found) (λ k. place_in k r) c.place-place.result es c.place-place.ensures set done.new.reader u read.new.self done.new.unread read.result
    done.result c.args.byte read.ensures.reading done.ensures)
