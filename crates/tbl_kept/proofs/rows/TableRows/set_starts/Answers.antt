use Rattle.std.proofs.Common.{sym}
use Rattle.tbl_layout.specs.Columns.{gaps, placed_with, spread, total}
use Rattle.tbl_layout.specs.Widths.{left_edge}
use Rattle.tbl_kept.proofs.RowsLaidOut.{RowsLaid-as_many, length-placed}
use Rattle.tbl_kept.proofs.rows.TableRows.set_starts.Goals as goal

pub returns-clause-laid : goal.returns-clause-laid
returns-clause-laid c = λ bytes formats is_inside laid.
    let k = c.args.self.now in
    let g = gaps c.args.bars c.args.asked.now in
    rw c.place.ensures (RowsLaid-as_many bytes formats is_inside k (placed_with c.args.bars c.args.more c.args.asked.now k.columns)
    (sym (length-placed (left_edge c.args.bars) (spread c.args.more (total g) 0 g) k.columns)) laid)
