use Rattle.tbl_layout.proofs.LeastWidths.{least_widths}
use Rattle.tbl_layout.proofs.laws.least_widths.Goals as goal

-- src/laws.rt:8:1
pub returns : goal.returns
returns c = least_widths
