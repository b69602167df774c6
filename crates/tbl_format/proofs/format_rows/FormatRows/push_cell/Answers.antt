use Rattle.std.proofs.Common.{◌≡◌, ℕ, ◌-◌, ◌<◌, false, ◌&&◌, ◌∷◌, ◌++◌, [], List, length, drop, sym, ap, subst, ◌∙◌, arith, length-append, length-drop, length-set}
use Rattle.std.specs.List.{AllByRecursion}
use Rattle.tbl_format.specs.Format.{Format, columns_of_keys, has_some, is_spanned, plain_key, widened}
use Rattle.tbl_format.specs.FormatRows.{AreWithin, KeptFormat}
use Rattle.roff_num.specs.Lists.{last_end, parts_ending}
use Rattle.tbl_format.specs.Parts.{EndWithin}
use Rattle.tbl_format.specs.declared.format.FormatKey.{FormatKey}
use Rattle.tbl_format.proofs.FormatBlocks.{columns-last, format-cell, format-wide, key_count-all, row-key, set-changed}
use Rattle.tbl_format.proofs.KeysWith.{has_some-columns, length-columns, own-first, own-other}
use Rattle.tbl_format.proofs.Parts.{EndWithin-more, EndWithin-order, parts_ending-more}
use Rattle.tbl_format.proofs.RowsWithin.{within-append, within-wide}
use Rattle.tbl_format.proofs.format_rows.FormatRows.push_cell.Goals as goal
use Rattle.tbl_format.proofs.format_rows.FormatRows.push_cell.Goals.{else-is_spanned-via-then-is_spanned+else-columns-gt0, else-is_spanned-via-else-is_spanned}

-- there is a last key, where the row begun has columns
row-some : (keys : List FormatKey) (from columns : ℕ) → columns ≡ columns_of_keys (drop from keys) → 0 < columns → from < length keys
row-some keys from columns is some = omega (arith, length-columns (drop from keys) (omega (arith, is, some)), length-drop from keys)

pub widened-requires : goal.widened-requires
widened-requires c =
    let old = c.self.inside in
    let from = last_end 0 old.ends.items in
    let columns = rw (← c.self.view_is) at c.requires.columns in
    let within = rw (← c.self.view_is) at c.requires.within in
    let at : c.len-last.result - 1 ≡ length old.keys.items - 1 = omega (arith, c.len-last.ensures, old.keys.ok.0) in
    let last = columns-last old.keys.items from (c.len-last.result - 1) c.index.result.now (row-some old.keys.items from c.args.columns columns c.if-columns-gt0.true) at in
    omega (arith, columns, within, last, ap (λ (k : FormatKey). k.end) c.index.ensures, c.self.invariant.small, c.self.invariant.asked_within)

pub invariant_of-self : goal.invariant_of-self
invariant_of-self c =
    let old = c.self.inside in
    let before = c.self.invariant in
    let from = last_end 0 old.ends.items in
    let columns = rw (← c.self.view_is) at c.requires.columns in
    let within = rw (← c.self.view_is) at c.requires.within in
    let at : c.len-last.result - 1 ≡ length old.keys.items - 1 = omega (arith, c.len-last.ensures, old.keys.ok.0) in
    let some = row-some old.keys.items from c.args.columns columns c.if-columns-gt0.true in
    let changed = set-changed widened old.ends.items old.keys.items (c.len-last.result - 1) c.widened.result c.index.result.now before.ends some at (c.widened.ensures ∙ ap widened c.index.ensures) in
    let len = length-set old.keys.items (c.len-last.result - 1) c.widened.result in
    let row = within-wide (length old.asked.items) (drop from old.keys.items) (omega (arith, columns, c.if-columns-gt0.true)) (omega (arith, columns, within)) before.row in
    record {
      keys_reserved = before.keys_reserved;
      ends_reserved = before.ends_reserved;
      bars_reserved = before.bars_reserved;
      columns_reserved = before.columns_reserved;
      keys_within = omega (arith, before.keys_within, len);
      ends = subst (λ (n : ℕ). EndWithin n 0 old.ends.items) (sym len) before.ends;
      bars = before.bars;
      first = before.first;
      small = before.small;
      asked_within = before.asked_within;
      whole = subst (AllByRecursion (AreWithin (length old.asked.items))) (sym changed.parts) before.whole;
      row = subst (AreWithin (length old.asked.items)) (sym changed.row) row;
    }

pub push_reserved-requires : goal.push_reserved-requires
push_reserved-requires c =
    let old = c.self.inside in
    let room = rw (← c.self.view_is) at c.requires.keys in
    omega (arith, room, key_count-all old.keys.items old.ends.items old.row_bars.items old.first old.asked.items old.front old.bars old.place c.self.invariant.ends, c.self.invariant.keys_reserved, old.keys.ok.0)

pub invariant_of-self-else-is_spanned : goal.invariant_of-self-else-is_spanned
invariant_of-self-else-is_spanned c =
    let old = c.self.inside in
    let before = c.self.invariant in
    let from = last_end 0 old.ends.items in
    let key = plain_key old.bars c.args.key c.args.columns in
    let room = rw (← c.self.view_is) at c.requires.keys in
    let columns = rw (← c.self.view_is) at c.requires.columns in
    let within = rw (← c.self.view_is) at c.requires.within in
    let items = rw c.new.ensures at c.push_reserved.ensures.items in
    let longer = length-append old.keys.items (key ∷ []) in
    let len = ap length items in
    let order = EndWithin-order (length old.keys.items) 0 old.ends.items before.ends in
    let parts : parts_ending (old.keys.items ++ key ∷ []) 0 old.ends.items ≡ parts_ending old.keys.items 0 old.ends.items =
    parts_ending-more old.keys.items (key ∷ []) 0 old.ends.items order in
    let row = within-append (length old.asked.items) (drop from old.keys.items) key (omega (arith, columns)) (omega (arith, within)) before.row in
    record {
      keys_reserved = omega (arith, before.keys_reserved, c.push_reserved.ensures.capacity);
      ends_reserved = before.ends_reserved;
      bars_reserved = before.bars_reserved;
      columns_reserved = before.columns_reserved;
      keys_within = omega (arith, room, key_count-all old.keys.items old.ends.items old.row_bars.items old.first old.asked.items old.front old.bars old.place before.ends, longer, len);
      ends = EndWithin-more (length old.keys.items) _ 0 old.ends.items (omega (arith, longer, len)) before.ends;
      bars = before.bars;
      first = before.first;
      small = before.small;
      asked_within = before.asked_within;
      whole = rw items (subst (AllByRecursion (AreWithin (length old.asked.items))) (sym parts) before.whole);
      row = rw items (subst (AreWithin (length old.asked.items)) (sym (row-key old.keys.items old.ends.items before.ends key)) row);
    }

pub returns-then-columns-gt0 : goal.returns-then-columns-gt0
returns-then-columns-gt0 c =
    let old = c.self.inside in
    let before = c.self.invariant in
    let from = last_end 0 old.ends.items in
    let columns = rw (← c.self.view_is) at c.requires.columns in
    let at : c.len-last.result - 1 ≡ length old.keys.items - 1 = omega (arith, c.len-last.ensures, old.keys.ok.0) in
    let some = row-some old.keys.items from c.args.columns columns c.if-columns-gt0.true in
    let changed = set-changed widened old.ends.items old.keys.items (c.len-last.result - 1) c.widened.result c.index.result.now before.ends some at (c.widened.ensures ∙ ap widened c.index.ensures) in
    rw (← c.self.view_is)
    (ap (λ (f : Format). let k : KeptFormat = record { format = f; key_room = old.key_room; column_room = old.column_room } in k)
    (format-wide old.keys.items old.ends.items old.row_bars.items old.first old.asked.items old.front old.bars old.place before.ends c.args.key _ changed
    (sym c.is_spanned.ensures ∙ c.if-is_spanned.true) (has_some-columns (drop from old.keys.items) (omega (arith, columns, c.if-columns-gt0.true)))))

pub returns-else-is_spanned : goal.returns-else-is_spanned
returns-else-is_spanned c =
    let old = c.self.inside in
    let before = c.self.invariant in
    let columns = rw (← c.self.view_is) at c.requires.columns in
    let items = rw c.new.ensures at c.push_reserved.ensures.items in
    let row = drop (last_end 0 old.ends.items) old.keys.items in
    let own : (is_spanned c.args.key && has_some row) ≡ false = elim c.else-is_spanned.branch [
      | else-is_spanned-via-then-is_spanned+else-columns-gt0 w ↦ own-first (is_spanned c.args.key) row before.row.cells (omega (arith, columns, w.if-columns-gt0.false))
      | else-is_spanned-via-else-is_spanned w ↦ own-other (is_spanned c.args.key) row (sym c.is_spanned.ensures ∙ w.if-is_spanned.false)
    ] in
    rw (← c.self.view_is, items)
    (ap (λ (f : Format). let k : KeptFormat = record { format = f; key_room = old.key_room; column_room = old.column_room } in k)
    (format-cell old.keys.items old.ends.items old.row_bars.items old.first old.asked.items old.front old.bars old.place before.ends c.args.key _ (ap (plain_key old.bars c.args.key) columns) own))
