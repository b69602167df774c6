use Rattle.std.proofs.Common.{arith}
use Rattle.tbl_format.proofs.Slices.{part-within}
use Rattle.tbl_pieces.proofs.pieces.part_behind.Goals as goal

pub slice_bounds-part-end : goal.slice_bounds-part-end
slice_bounds-part-end c =
    part-within c.args.block.now c.args.from c.args.to c.requires.within (omega (arith, c.requires.some))
