use Rattle.std.proofs.Common.{ap, arith, length, drop}
use Rattle.tbl_format.specs.Format.{asked_by}
use Rattle.roff_num.specs.Lists.{last_end, parts_ending}
use Rattle.tbl_format.proofs.KeyCounting.{length-asking}
use Rattle.tbl_format.proofs.RowsWithin.{all-more, within-more}
use Rattle.tbl_format.proofs.format_rows.FormatRows.ask.Goals as goal

pub invariant_of-self : goal.invariant_of-self
invariant_of-self c =
    let old = c.self.inside in
    let before = c.self.invariant in
    let items = ap length c.ask.ensures.items in
    let same = length-asking (asked_by c.args.does) c.row_columns-columns.result old.asked.items in
    record {
      keys_reserved = before.keys_reserved;
      ends_reserved = before.ends_reserved;
      bars_reserved = before.bars_reserved;
      columns_reserved = omega (arith, before.columns_reserved, c.ask.ensures.capacity);
      keys_within = before.keys_within;
      ends = before.ends;
      bars = before.bars;
      first = before.first;
      small = before.small;
      asked_within = omega (arith, before.asked_within, items, same);
      whole = all-more (length old.asked.items) _ (parts_ending old.keys.items 0 old.ends.items) (omega (arith, items, same)) before.whole;
      row = within-more (length old.asked.items) _ (drop (last_end 0 old.ends.items) old.keys.items) (omega (arith, items, same)) before.row;
    }
