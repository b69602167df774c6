use Rattle.std.proofs.Common.{map}
use Rattle.tbl_format.specs.RowsServed.{all_rows}
use Rattle.tbl_kept.specs.RowsInside.{kept_in}
use Rattle.tbl_kept.proofs.RowsAlone.{none-above, rows-none}
use Rattle.tbl_kept.proofs.rows.TableRows.may_go_on.Goals as goal

pub returns-clause-above : goal.returns-clause-above
returns-clause-above c = λ none bytes.
    let a = c.self.inside in
    let down = c.goes_on.ensures.fields none in
    rw (← c.self.view_is) (none-above bytes (all_rows c.args.format.now.format) (c.has_above.ensures (c.goes_on-down.ensures.keys down))
    (map (kept_in a.entries.items) a.elements.items)
    (rows-none a.entries.items a.elements.items (c.self.invariant.no_above (c.goes_on-down.ensures.fields down))))
