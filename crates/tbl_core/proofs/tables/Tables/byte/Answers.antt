use Rattle.std.proofs.Common.{ap, ◌∙◌}
use Rattle.tbl_core.specs.Tables.{TablesState}
use Rattle.tbl_core.proofs.Pending.{nothing_pending}
use Rattle.tbl_core.proofs.tables.Tables.byte.Goals as goal

pub cut_table-requires : goal.cut_table-requires
cut_table-requires c =
    let none = nothing_pending c.self.inside.table.told c.self.inside.own c.self.inside.table.to_come (ap (λ (s : TablesState). s.at.pending) c.self.view_is ∙ c.requires) in
    record { told = none.no_told; bytes = none.no_bytes }
