use Rattle.std.proofs.Common.{arith}
use Rattle.tbl_kept.proofs.RowPlaces.{LieBetween-command}
use Rattle.tbl_kept.proofs.rows.TableRows.keep_command.Goals as goal

-- src/rows.rt:178:5
pub invariant_of-self : goal.invariant_of-self
invariant_of-self c =
    let a = c.self.inside in
    record {
      entries_reserved = c.self.invariant.entries_reserved;
      elements_reserved = omega (arith, c.self.invariant.elements_reserved, c.push_reserved.ensures.capacity);
      columns_reserved = c.self.invariant.columns_reserved;
      start = c.self.invariant.start;
      rows = rw c.push_reserved.ensures.items (LieBetween-command 0 a.row_start c.args.from c.args.to a.elements.items c.self.invariant.rows);
      no_blocks = c.self.invariant.no_blocks;
      no_above = c.self.invariant.no_above;
      columns_few = c.self.invariant.columns_few;
      lefts_reserved = c.self.invariant.lefts_reserved;
    }
