use Rattle.std.proofs.Common.{rules, ap, ◌∙◌}
use Rattle.tbl_core.specs.Tables.{TablesState}
use Rattle.tbl_core.proofs.Pending.{nothing_pending, own_pending}
use Rattle.tbl_core.proofs.tables.Tables.end.Goals as goal

pub returns-in-Outside : goal.returns-in-Outside
returns-in-Outside c =
    let none = nothing_pending c.self.inside.table.told c.self.inside.own c.self.inside.table.to_come (ap (λ (s : TablesState). s.at.pending) c.self.view_is ∙ c.requires) in
    let is = own_pending c.self.inside.table c.not_ended-self-inside.result _ none.no_told none.no_bytes c.not_ended-self-inside.ensures in
    search rules

pub returns-in-RestOfStart : goal.returns-in-RestOfStart
returns-in-RestOfStart c =
    let none = nothing_pending c.self.inside.table.told c.self.inside.own c.self.inside.table.to_come (ap (λ (s : TablesState). s.at.pending) c.self.view_is ∙ c.requires) in
    let is = own_pending c.self.inside.table c.not_ended-self-inside-in-RestOfStart.result _ none.no_told none.no_bytes c.not_ended-self-inside-in-RestOfStart.ensures in
    search rules
