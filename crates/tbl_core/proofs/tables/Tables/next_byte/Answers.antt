use Rattle.std.proofs.Common.{ap, ◌∙◌}
use Rattle.tbl_core.specs.NotesLeft.{noted}
use Rattle.tbl_core.specs.Tables.{TablesState}
use Rattle.tbl_core.proofs.Pending.{byte_given, bytes_pending}
use Rattle.tbl_core.proofs.tables.Tables.next_byte.Goals as goal

pub returns : goal.returns
returns c =
    let a = c.self.inside in
    let none = ap (λ (t : TablesState). noted t.at.pending) c.self.view_is ∙ c.requires in
    let bytes = bytes_pending a.table.told a.own a.table.to_come none in
    rw (← c.self.view_is) (byte_given a.limits a.line_length a.count a.position a.own a.table c.next.new.self c.next.result c.next.ensures bytes)
