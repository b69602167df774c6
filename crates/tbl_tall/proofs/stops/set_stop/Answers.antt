use Rattle.std.proofs.Common.{◌≡◌, suc, false, drop, length, nat_lt, sym, ◌∙◌}
use Rattle.tbl_format.specs.RowsServed.{all_rows}
use Rattle.tbl_kept.specs.Rows.{elements_of}
use Rattle.tbl_kept.specs.RowsLaying.{element_at}
use Rattle.tbl_tall.proofs.StopsSet.{stop-free}
use Rattle.tbl_tall.proofs.stops.set_stop.Goals as goal
use Rattle.tbl_tall.specs.StopsKept.{format_kept}

pub returns-clause-left : goal.returns-clause-left
returns-clause-left c = λ bytes l others laid is first.
    let n = length c.args.rows.now.columns in
    let formats = all_rows c.args.format.now.format in
    let names = (format_kept formats (element_at c.args.rows.now.elements c.args.element)).keys in
    let elements = elements_of bytes formats (drop (suc c.args.element) c.args.rows.now.elements) in
    let down : nat_lt 0 c.args.cell.now.rows ≡ false = sym c.goes_on.ensures ∙ c.if-goes_on.false in
    stop-free bytes n names elements c.args.cell.now l others c.args.at c.args.next c.stop_below-cell.result c.if-not-cell.false down is first
    (c.stop_below-cell.ensures bytes laid)
