use Rattle.std.proofs.Common.{ℕ, length, drop, ap, arith}
use Rattle.tbl_format.specs.Format.{with_columns}
use Rattle.roff_num.specs.Lists.{last_end, parts_ending}
use Rattle.tbl_format.proofs.KeyCounting.{length-with_columns}
use Rattle.tbl_format.proofs.RowsWithin.{all-more, within-more}
use Rattle.tbl_format.proofs.format_rows.FormatRows.push_key.Goals as goal

pub invariant_of-self : goal.invariant_of-self
invariant_of-self c =
    let old = c.self.inside in
    let before = c.self.invariant in
    let room = rw (← c.self.view_is) at c.requires.columns in
    let row = rw (← c.self.view_is) at c.row_columns-columns.ensures.value in
    let few = rw (← c.self.view_is) at c.row_columns-columns.ensures.few in
    let same = ap (λ (n : ℕ). length (with_columns old.asked.items n)) row in
    let items = ap length c.push_column.ensures.items in
    let more = length-with_columns old.asked.items c.row_columns-columns.result few in
    record {
      keys_reserved = before.keys_reserved;
      ends_reserved = before.ends_reserved;
      bars_reserved = before.bars_reserved;
      columns_reserved = omega (arith, before.columns_reserved, c.push_column.ensures.capacity);
      keys_within = before.keys_within;
      ends = before.ends;
      bars = before.bars;
      first = before.first;
      small = before.small;
      asked_within = omega (arith, room, same, items);
      whole = all-more (length old.asked.items) _ (parts_ending old.keys.items 0 old.ends.items) (omega (arith, items, more)) before.whole;
      row = within-more (length old.asked.items) _ (drop (last_end 0 old.ends.items) old.keys.items) (omega (arith, items, more)) before.row;
    }

pub push_cell-requires-clause-within : goal.push_cell-requires-clause-within
push_cell-requires-clause-within c =
    let old = c.self.inside in
    let few = rw (← c.self.view_is) at c.row_columns-columns.ensures.few in
    omega (arith, ap length c.push_column.ensures.items, length-with_columns old.asked.items c.row_columns-columns.result few)
