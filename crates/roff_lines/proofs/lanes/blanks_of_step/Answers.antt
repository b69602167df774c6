use Rattle.std.proofs.Common.{eqb, w8, arith}
use Rattle.std.specs.Simd.Lanes.{chunk}
use Rattle.std.proofs.lemmas.Simd.{bitmask_splat, length-chunk}
use Rattle.roff_lines.proofs.lanes.blanks_of_step.Goals as goal

pub returns : goal.returns
returns c =
    let v = chunk c.args.start 16 c.args.bytes.now in
    bitmask_splat w8 eqb v 16 32 (length-chunk c.args.start 16 c.args.bytes.now c.requires) (omega arith)
