use Rattle.std.proofs.Common.{leb, w8, arith}
use Rattle.std.specs.Simd.Lanes.{chunk}
use Rattle.std.proofs.lemmas.Simd.{bitmask_splat, length-chunk}
use Rattle.roff_lines.proofs.Steps.{glyphs-first}
use Rattle.roff_lines.proofs.lanes.glyphs_of_half_step.Goals as goal

pub returns : goal.returns
returns c =
    let v = chunk c.args.start 8 c.args.text.now in
    let long = length-chunk c.args.start 8 c.args.text.now c.requires in
    glyphs-first v 8 _ _ long (omega arith) c.first_set.ensures (bitmask_splat w8 leb v 8 32 long (omega arith))
