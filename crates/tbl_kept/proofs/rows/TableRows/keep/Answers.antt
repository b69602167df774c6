use Rattle.std.proofs.Common.{arith}
use Rattle.tbl_kept.proofs.RowSteps.{entry-kept, fields-counted}
use Rattle.tbl_kept.proofs.rows.TableRows.keep.Goals as goal

-- src/rows.rt:140:9
pub push_reserved-requires : goal.push_reserved-requires
push_reserved-requires c =
    let a = c.self.inside in
    let room = rw (← c.self.view_is) at c.requires in
    omega (arith, room, fields-counted a.entries.items a.elements.items a.row_start c.self.invariant.start c.self.invariant.rows, c.self.invariant.entries_reserved, a.entries.ok.0)

-- src/rows.rt:136:5
pub returns : goal.returns
returns c =
    let a = c.self.inside in
    rw (← c.self.view_is, c.push_reserved.ensures.items)
    (entry-kept a.entries.items a.elements.items a.row_start a.columns.items a.entry_room a.element_room a.column_room c.self.invariant.start c.self.invariant.rows c.args.entry)
