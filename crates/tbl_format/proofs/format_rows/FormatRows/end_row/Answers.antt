use Rattle.std.proofs.Common.{◌≡◌, ◌<◌, ◌∷◌, [], length, drop, sym, ap, subst, arith, length-append, length-drop}
use Rattle.std.proofs.lemmas.List.{drop_all}
use Rattle.tbl_format.specs.Format.{Format}
use Rattle.tbl_format.specs.FormatRows.{AreWithin, KeptFormat}
use Rattle.roff_num.specs.Lists.{last_end}
use Rattle.tbl_format.proofs.FormatBlocks.{format-whole}
use Rattle.roff_num.proofs.Lists.{last_end-append}
use Rattle.tbl_format.proofs.Parts.{EndWithin-append, EndWithin-count, EndWithin-last}
use Rattle.tbl_format.proofs.RowsWithin.{all-append, within-none}
use Rattle.tbl_format.proofs.format_rows.FormatRows.end_row.Goals as goal

pub push_reserved-requires : goal.push_reserved-requires
push_reserved-requires c =
    let old = c.self.inside in
    let before = c.self.invariant in
    let row = rw (← c.self.view_is) at c.row_len.ensures in
    omega (arith, row, c.if-row_len-gt0.true, length-drop (last_end 0 old.ends.items) old.keys.items, EndWithin-count (length old.keys.items) 0 old.ends.items before.ends, EndWithin-last (length old.keys.items) 0 old.ends.items before.ends, before.keys_within, before.ends_reserved, old.ends.ok.0)

pub push_reserved-requires-then-row_len-gt0 : goal.push_reserved-requires-then-row_len-gt0
push_reserved-requires-then-row_len-gt0 c =
    let old = c.self.inside in
    let before = c.self.invariant in
    let row = rw (← c.self.view_is) at c.row_len.ensures in
    omega (arith, row, c.if-row_len-gt0.true, length-drop (last_end 0 old.ends.items) old.keys.items, EndWithin-count (length old.keys.items) 0 old.ends.items before.ends, EndWithin-last (length old.keys.items) 0 old.ends.items before.ends, before.keys_within, before.bars_reserved, before.bars, old.row_bars.ok.0)

pub invariant_of-self : goal.invariant_of-self
invariant_of-self c =
    let old = c.self.inside in
    let before = c.self.invariant in
    let row = rw (← c.self.view_is) at c.row_len.ensures in
    let ends = c.push_reserved in
    let bars = c.push_reserved-then-row_len-gt0 in
    let items = rw (c.len.ensures, old.keys.ok.0) at ends.ensures.items in
    let some : last_end 0 old.ends.items < length old.keys.items =
    omega (arith, row, c.if-row_len-gt0.true, length-drop (last_end 0 old.ends.items) old.keys.items) in
    let none : drop (length old.keys.items) old.keys.items ≡ [] = drop_all (length old.keys.items) old.keys.items (omega arith) in
    let longer = length-append old.ends.items (length old.keys.items ∷ []) in
    record {
      keys_reserved = before.keys_reserved;
      ends_reserved = omega (arith, before.ends_reserved, ends.ensures.capacity);
      bars_reserved = omega (arith, before.bars_reserved, bars.ensures.capacity);
      columns_reserved = before.columns_reserved;
      keys_within = before.keys_within;
      ends = rw items (EndWithin-append (length old.keys.items) 0 old.ends.items some before.ends);
      bars = omega (arith, before.bars, ap length items, ap length bars.ensures.items, longer, length-append old.row_bars.items (old.bars ∷ []));
      first = omega (arith, before.first, ap length items, longer);
      small = before.small;
      asked_within = before.asked_within;
      whole = rw items (all-append (length old.asked.items) old.keys.items old.ends.items before.row before.whole);
      row = rw (items, last_end-append 0 (length old.keys.items) old.ends.items)
          (subst (AreWithin (length old.asked.items)) (sym none) (within-none (length old.asked.items)));
    }

pub returns-then-row_len-gt0 : goal.returns-then-row_len-gt0
returns-then-row_len-gt0 c =
    let old = c.self.inside in
    let before = c.self.invariant in
    let row = rw (← c.self.view_is) at c.row_len.ensures in
    let items = rw (c.len.ensures, old.keys.ok.0) at c.push_reserved.ensures.items in
    rw (← c.self.view_is, items, c.push_reserved-then-row_len-gt0.ensures.items)
    (ap (λ (f : Format). let k : KeptFormat = record { format = f; key_room = old.key_room; column_room = old.column_room } in k)
    (format-whole old.keys.items old.ends.items old.row_bars.items old.first old.asked.items old.front old.bars old.place before.ends (omega (arith, row, c.if-row_len-gt0.true)) before.bars before.first))
