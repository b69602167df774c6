use Rattle.std.proofs.Common.{ap}
use Rattle.input_escapes.specs.declared.open_escape.CopyUnit.TheVariants.{Byte}
use Rattle.input_escapes.specs.OpenEscapes.{byte_read}
use Rattle.run_model.specs.Reading.{undropped_taking}
use Rattle.run_model.specs.Reading.Collecting.{unit_taking}
use Rattle.run_model.specs.Reading.Found.{place_in, read_in}
use Rattle.run_model.specs.declared.line_state.LineState.{LineState}
use Rattle.run_model.specs.declared.line_state.LineState.TheVariants.{Collecting}
use Rattle.read_lines.proofs.TakesAs.{TakesAs-as}
use Rattle.read_steps.proofs.Placed.{unit-undropped}
use Rattle.read_steps.proofs.bytes.read_byte_for.Goals as goal

pub returns-in-Defining : goal.returns-in-Defining
returns-in-Defining c =
    let old = c.args.reader.now in
    let u = c.args.unread.now in
    let b = c.args.byte in
    let done = c.read_placed in
    TakesAs-as (λ k. read_in k old.reading u.input (byte_read (place_in k old.reading) u.input.escapes b)) (λ k. undropped_taking k (Collecting c.args.purpose) u.input b) c.args.composer.now old done.new.reader u done.new.unread done.result
    (λ k. ap (λ (r : LineState). read_in k r u.input (byte_read (place_in k r) u.input.escapes b)) c.requires.collects) done.ensures

pub returns-in_default : goal.returns-in_default
returns-in_default c =
    let old = c.args.reader.now in
    let u = c.args.unread.now in
    let b = c.args.byte in
    let purpose = c.args.purpose in
    let done = c.read_unit_for in
    TakesAs-as (λ k. unit_taking k u.input (Collecting purpose) (Byte b)) (λ k. undropped_taking k (Collecting purpose) u.input b) c.args.composer.now old done.new.reader u done.new.unread
    done.result
    (λ k. unit-undropped k u.input purpose b c.requires.none_half c.requires.no_escape (λ name appends end matched is. c.in_default.not-Defining name appends end matched is))
    done.ensures
