use Rattle.std.specs.Simd.Lanes.{chunk}
use Rattle.std.proofs.lemmas.Simd.{length-chunk}
use Rattle.input_source.proofs.PlainBytes.{ending-mask, first-ending}
use Rattle.input_source.proofs.bytes.text_of_step.Goals as goal

pub returns : goal.returns
returns c =
    let v = chunk c.args.start 16 c.args.bytes.now in
    let long = length-chunk c.args.start 16 c.args.bytes.now c.requires in
    first-ending v c.first_set.result _ long c.first_set.ensures (ending-mask v long)
