use Rattle.std.proofs.Common.{◌∙◌}
use Rattle.tbl_table.proofs.TableFits.{refuse-fits}
use Rattle.tbl_table.proofs.table.Table.give_unended.Goals as goal

pub invariant_of-self : goal.invariant_of-self
invariant_of-self c =
    let a = c.self.inside in
    let front = rw (← c.self.view_is) at c.requires.phase in
    record {
      parts = rw (c.tell.ensures, c.refuse-self-inside.ensures.notes, c.refuse-self-inside.ensures.phase)
          (refuse-fits c.self.invariant.parts c.args.number front);
      giving = c.give_read.ensures.can a.kept.rows a.kept.format;
      columns = c.give_read.ensures.room ∙ c.self.invariant.columns;
    }
