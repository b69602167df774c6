use Rattle.std.proofs.Common.{◌≤◌, length, ap, subst, sym, ◌∙◌}
use Rattle.tbl_core.specs.NotesLeft.{noted}
use Rattle.tbl_core.specs.Tables.{TablesState}
use Rattle.tbl_core.proofs.Given.{front_pending, length_pending}
use Rattle.tbl_core.proofs.Pending.{bytes_pending}
use Rattle.tbl_core.proofs.tables.Tables.buffered.Goals as goal

pub returns-clause-front : goal.returns-clause-front
returns-clause-front c =
    let a = c.self.inside in
    let none = ap (λ (t : TablesState). noted t.at.pending) c.self.view_is ∙ c.requires in
    let bytes = bytes_pending a.table.told a.own a.table.to_come none in
    rw (← c.self.view_is) (front_pending a.table a.own bytes c.buffered.result.now c.buffered.ensures.front)

pub returns-clause-some : goal.returns-clause-some
returns-clause-some c = λ some.
    let a = c.self.inside in
    let none = ap (λ (t : TablesState). noted t.at.pending) c.self.view_is ∙ c.requires in
    let bytes = bytes_pending a.table.told a.own a.table.to_come none in
    let pending = subst (λ (t : TablesState). 1 ≤ length t.at.pending) (sym c.self.view_is) some in
    c.buffered.ensures.some (subst (λ n. 1 ≤ n) (length_pending a.table a.own bytes) pending)
