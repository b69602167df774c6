use Rattle.std.proofs.Common.{◌≡◌, ℕ, ◌<◌, ◌-◌, length, drop, sym, ap, subst, ◌∙◌, arith, length-drop, length-set}
use Rattle.std.specs.List.{AllByRecursion}
use Rattle.tbl_format.specs.Format.{Format, said_by}
use Rattle.tbl_format.specs.FormatRows.{AreWithin, KeptFormat}
use Rattle.roff_num.specs.Lists.{last_end}
use Rattle.tbl_format.specs.Parts.{EndWithin}
use Rattle.tbl_format.proofs.FormatBlocks.{format-said, set-changed}
use Rattle.tbl_format.proofs.RowsWithin.{said_by-end, within-said}
use Rattle.tbl_format.proofs.format_rows.FormatRows.say.Goals as goal

pub invariant_of-self : goal.invariant_of-self
invariant_of-self c =
    let old = c.self.inside in
    let before = c.self.invariant in
    let from = last_end 0 old.ends.items in
    let row = rw (← c.self.view_is) at c.row_len.ensures in
    let some : from < length old.keys.items = omega (arith, row, c.if-row_len-gt0.true, length-drop from old.keys.items) in
    let at : c.len-last.result - 1 ≡ length old.keys.items - 1 = omega (arith, c.len-last.ensures, old.keys.ok.0) in
    let changed = set-changed (said_by c.args.does) old.ends.items old.keys.items (c.len-last.result - 1) c.said_by.result c.index.result.now before.ends some at
    (c.said_by.ensures ∙ ap (said_by c.args.does) c.index.ensures) in
    let len = length-set old.keys.items (c.len-last.result - 1) c.said_by.result in
    record {
      keys_reserved = before.keys_reserved;
      ends_reserved = before.ends_reserved;
      bars_reserved = before.bars_reserved;
      columns_reserved = before.columns_reserved;
      keys_within = omega (arith, before.keys_within, len);
      ends = subst (λ (n : ℕ). EndWithin n 0 old.ends.items) (sym len) before.ends;
      bars = before.bars;
      first = before.first;
      small = before.small;
      asked_within = before.asked_within;
      whole = subst (AllByRecursion (AreWithin (length old.asked.items))) (sym changed.parts) before.whole;
      row = subst (AreWithin (length old.asked.items)) (sym changed.row)
          (within-said (said_by c.args.does) (said_by-end c.args.does) (length old.asked.items) (drop from old.keys.items) before.row);
    }

pub returns-then-row_len-gt0 : goal.returns-then-row_len-gt0
returns-then-row_len-gt0 c =
    let old = c.self.inside in
    let row = rw (← c.self.view_is) at c.row_len.ensures in
    let some : last_end 0 old.ends.items < length old.keys.items =
    omega (arith, row, c.if-row_len-gt0.true, length-drop (last_end 0 old.ends.items) old.keys.items) in
    let at : c.len-last.result - 1 ≡ length old.keys.items - 1 = omega (arith, c.len-last.ensures, old.keys.ok.0) in
    let changed = set-changed (said_by c.args.does) old.ends.items old.keys.items (c.len-last.result - 1) c.said_by.result c.index.result.now c.self.invariant.ends some at
    (c.said_by.ensures ∙ ap (said_by c.args.does) c.index.ensures) in
    rw (← c.self.view_is)
    (ap (λ (f : Format). let k : KeptFormat = record { format = f; key_room = old.key_room; column_room = old.column_room } in k)
    (format-said (said_by c.args.does) old.ends.items old.row_bars.items old.first old.asked.items old.front old.bars old.place old.keys.items _ changed))
