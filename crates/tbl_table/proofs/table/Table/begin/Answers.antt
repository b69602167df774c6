use Rattle.std.proofs.Common.{◌∙◌}
use Rattle.tbl_table.specs.Kept.{HasRooms}
use Rattle.tbl_table.specs.Steps.{emptied}
use Rattle.tbl_table.proofs.TableFits.{start-fits}
use Rattle.tbl_table.proofs.table.Table.begin.Goals as goal

pub invariant_of-self : goal.invariant_of-self
invariant_of-self c =
    let a = c.self.inside in
    let rooms = c.self.invariant.parts.rooms in
    let empty : HasRooms a.limits a.text.text_room (emptied a.kept) = record {
      text = rooms.text;
      keys = rooms.keys;
      asked = rooms.asked;
      entries = rooms.entries;
      elements = rooms.elements;
      columns = rooms.columns;
      notes = rooms.notes;
      small = rooms.small;
      narrow = rooms.narrow;
      wide = rooms.wide;
    } in
    record {
      parts = rw (c.clear.ensures, c.clear_data.ensures) (start-fits a.limits a.text.text_room a.kept empty);
      giving = c.give_nothing.ensures.nothing.can c.clear.new.self c.clear_data.new.kept.rows c.clear_data.new.kept.format;
      columns = c.give_nothing.ensures.room ∙ c.self.invariant.columns;
    }
