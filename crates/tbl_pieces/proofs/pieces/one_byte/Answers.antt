use Rattle.std.proofs.Common.{arith}
use Rattle.tbl_pieces.proofs.PiecesLeft.{one-counted}
use Rattle.tbl_pieces.proofs.pieces.one_byte.Goals as goal

pub returns : goal.returns
returns c = one-counted c.args.byte 256 (omega (arith, c.ranges.byte.fits))
