use Rattle.std.proofs.Common.{arith}
use Rattle.tbl_layout.proofs.columns.Needs.width.Goals as goal

-- src/columns.rt:90:5
pub returns : goal.returns
returns c = omega (arith, c.max.ensures, c.max-entries.ensures, c.max-2.ensures, c.unwrap_or.ensures)
