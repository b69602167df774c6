use Rattle.std.proofs.Common.{arith}
use Rattle.tbl_table.specs.Table.{rows}
use Rattle.tbl_table.proofs.RowsBehind.{rows-few}
use Rattle.tbl_table.proofs.table.Table.reads_any.Goals as goal

pub returns-in-InData-clause-rows : goal.returns-in-InData-clause-rows
unfolding rows
returns-in-InData-clause-rows c = λ is.
    let room = c.has_room.ensures.rows is in
    let few = rows-few c.args.self.now.reading.table c.args.self.now.reading.line in
    omega (arith, room, few)
