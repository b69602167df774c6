use Rattle.std.proofs.Common.{ap, ◌∙◌, arith}
use Rattle.tbl_core.specs.NotesLeft.{noted}
use Rattle.tbl_core.specs.Tables.{TablesState}
use Rattle.tbl_core.proofs.Given.{given_pending, length_pending}
use Rattle.tbl_core.proofs.Pending.{bytes_pending}
use Rattle.tbl_core.proofs.tables.Tables.give_bytes.Goals as goal

pub give_bytes-requires : goal.give_bytes-requires
give_bytes-requires c =
    let a = c.self.inside in
    let none = ap (λ (t : TablesState). noted t.at.pending) c.self.view_is ∙ c.requires.none in
    let bytes = bytes_pending a.table.told a.own a.table.to_come none in
    let within = rw (← c.self.view_is) at c.requires.within in
    let same = length_pending a.table a.own bytes in
    omega (arith, within, same)

pub returns : goal.returns
returns c =
    let a = c.self.inside in
    let none = ap (λ (t : TablesState). noted t.at.pending) c.self.view_is ∙ c.requires.none in
    let bytes = bytes_pending a.table.told a.own a.table.to_come none in
    rw (← c.self.view_is)
    (given_pending a.table a.own bytes a.limits a.line_length a.count a.position c.give_bytes.new.self c.args.count c.give_bytes.ensures)
