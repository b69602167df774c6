use Rattle.std.proofs.Common.{rules, ◌<◌, refl, ◌∙◌}
use Rattle.tbl_table.specs.Kept.{HasRooms}
use Rattle.tbl_table.specs.Steps.{roomy}
use Rattle.tbl_table.proofs.TableFits.{start-fits}
use Rattle.tbl_table.proofs.table.Table.new.Goals as goal

pub invariant_of-result : goal.invariant_of-result
invariant_of-result c =
    let l = c.args.limits in
    let small : l.text < 4294967296 = search rules in
    let narrow : l.columns < 4294967296 = search rules in
    let wide : l.width < 4294967296 = search rules in
    let d = roomy l.text c.min-columns.result c.in_ok-new_data.field-0 in
    let rooms : HasRooms l l.text d = record {
      text = refl;
      keys = refl;
      asked = c.min-columns.ensures;
      entries = refl;
      elements = refl;
      columns = c.min-columns.ensures;
      notes = refl;
      small = small;
      narrow = narrow;
      wide = wide;
    } in
    record {
      parts = rw (c.in_ok-new.ensures, c.in_ok-new_data.ensures) (start-fits l l.text d rooms);
      giving = c.in_ok-new-2.ensures.nothing.can c.in_ok-new.field-0 c.in_ok-new_data.field-0.rows c.in_ok-new_data.field-0.format;
      columns = c.in_ok-new-2.ensures.room ∙ c.min-columns.ensures;
    }
