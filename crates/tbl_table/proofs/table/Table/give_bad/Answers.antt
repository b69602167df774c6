use Rattle.std.proofs.Common.{◌∙◌}
use Rattle.tbl_table.proofs.TableFits.{tell-fits}
use Rattle.tbl_table.proofs.table.Table.give_bad.Goals as goal

pub invariant_of-self : goal.invariant_of-self
invariant_of-self c =
    let a = c.self.inside in
    record {
      parts = rw c.tell.ensures (tell-fits c.self.invariant.parts);
      giving = c.give_read.ensures.can a.kept.rows a.kept.format;
      columns = c.give_read.ensures.room ∙ c.self.invariant.columns;
    }
