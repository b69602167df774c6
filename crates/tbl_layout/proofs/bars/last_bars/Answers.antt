use Rattle.tbl_layout.proofs.LastBars.{last_bars-slice_get}
use Rattle.tbl_layout.proofs.bars.last_bars.Goals as goal

-- src/bars.rt:91:1
pub returns-in-Some : goal.returns-in-Some
returns-in-Some c = last_bars-slice_get c.args.asked.now c.in-Some.column.now c.in-Some.ensures.value
