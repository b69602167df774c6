use Rattle.std.proofs.Common.{◌≡◌, true, sym, ap, ◌∙◌}
use Rattle.tbl_kept.specs.Joined.{goes_on}
use Rattle.tbl_table.proofs.OtherLines.{join-fits}
use Rattle.tbl_kept.proofs.TextBlocks.{goes_on-some}
use Rattle.tbl_table.proofs.table.Table.end_data_line.Goals as goal

pub invariant_of-self : goal.invariant_of-self
invariant_of-self c =
    let a = c.self.inside in
    let room = rw (← c.self.view_is) at c.requires.room in
    let is = rw (← c.self.view_is) at c.requires.phase in
    let on : goes_on a.text.line ≡ true = ap goes_on (sym c.line.ensures) ∙ sym c.goes_on.ensures ∙ c.if-goes_on.true in
    record {
      parts = rw c.join.ensures (join-fits c.self.invariant.parts is c.args.number (goes_on-some a.text.line on) room);
      giving = c.give_nothing.ensures.nothing.can c.join.new.self a.kept.rows a.kept.format;
      columns = c.give_nothing.ensures.room ∙ c.self.invariant.columns;
    }
