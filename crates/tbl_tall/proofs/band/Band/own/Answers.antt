use Rattle.std.proofs.Common.{arith}
use Rattle.tbl_tall.proofs.band.Band.own.Goals as goal

pub row_at-row-requires : goal.row_at-row-requires
row_at-row-requires c = omega (arith, c.requires.fits.places, c.requires.line, c.if-at-self.false)
