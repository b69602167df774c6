use Rattle.std.proofs.Common.{arith}
use Rattle.tbl_layout.proofs.Shares.{part-is}
use Rattle.tbl_layout.proofs.spread.part_of.Goals as goal

pub returns-clause-value : goal.returns-clause-value
returns-clause-value c = part-is c.args.at c.args.more c.args.count (omega (arith, c.requires.within))
