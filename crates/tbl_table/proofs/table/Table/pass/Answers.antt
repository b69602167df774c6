use Rattle.std.proofs.Common.{ap, sym, refl, ◌∙◌}
use Rattle.tbl_options.specs.Notes.{told_of_all}
use Rattle.tbl_kept.specs.TableNotes.{KeptNotes}
use Rattle.tbl_table.specs.Kept.{table_of}
use Rattle.tbl_table.proofs.LastLines.{notes-by}
use Rattle.tbl_table.proofs.TableFits.{tell-fits}
use Rattle.tbl_table.proofs.table.Table.pass.Goals as goal

pub invariant_of-self : goal.invariant_of-self
invariant_of-self c =
    let a = c.self.inside in
    record {
      parts = rw c.tell.ensures (tell-fits c.self.invariant.parts);
      giving = c.give_read.ensures.can a.kept.rows a.kept.format;
      columns = c.give_read.ensures.room ∙ c.self.invariant.columns;
    }

pub returns-clause-told : goal.returns-clause-told
returns-clause-told c =
    let a = c.self.inside in
    let t = table_of a.phase a.options a.text a.kept in
    let told = rw (← c.self.view_is) at c.tell_last.ensures.told in
    ap (λ (ns : KeptNotes). told_of_all a.text.settled ns.to_tell) c.tell.ensures ∙ sym (notes-by t t.notes refl) ∙ told
