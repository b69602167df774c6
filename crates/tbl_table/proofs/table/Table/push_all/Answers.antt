use Rattle.std.proofs.Common.{◌∙◌}
use Rattle.tbl_table.proofs.TableFits.{push-data}
use Rattle.tbl_table.proofs.table.Table.push_all.Goals as goal

pub invariant_of-self : goal.invariant_of-self
invariant_of-self c =
    let a = c.self.inside in
    let phase = rw (← c.self.view_is) at c.requires.phase in
    let room = rw (← c.self.view_is) at c.requires.room in
    record {
      parts = rw c.push_all.ensures
          (push-data c.self.invariant.parts c.args.bytes.now phase room c.requires.one_line);
      giving = c.give_nothing.ensures.nothing.can c.push_all.new.self a.kept.rows a.kept.format;
      columns = c.give_nothing.ensures.room ∙ c.self.invariant.columns;
    }
