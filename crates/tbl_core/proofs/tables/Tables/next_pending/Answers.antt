use Rattle.std.proofs.Common.{ap, ◌∙◌}
use Rattle.tbl_table.specs.Reading.{KeptTable}
use Rattle.tbl_core.proofs.Pending.{next_quiet}
use Rattle.tbl_core.proofs.tables.Tables.next_pending.Goals as goal

pub returns-clause-bytes : goal.returns-clause-bytes
returns-clause-bytes c =
    let told = c.in_default.ensures in
    next_quiet c.next_told.new.self c.next.new.self c.take.new.self c.next.result c.match-next.result (ap (λ (t : KeptTable). t.told) told.1 ∙ told.0) c.take.ensures.after c.next.ensures
