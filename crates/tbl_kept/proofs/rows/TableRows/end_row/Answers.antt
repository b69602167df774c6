use Rattle.std.proofs.Common.{◌≡◌, ◌-◌, List, length, drop, refl, sym, ap, ◌∙◌, arith, length-drop, take_all}
use Rattle.std.proofs.lemmas.List.{with_items_is}
use Rattle.tbl_kept.specs.Rows.{holding}
use Rattle.tbl_layout.specs.declared.entry.Entry.{Entry}
use Rattle.tbl_kept.proofs.RowPlaces.{LieBetween-row}
use Rattle.tbl_kept.proofs.RowSteps.{fields-counted, row-ended}
use Rattle.tbl_kept.proofs.rows.TableRows.end_row.Goals as goal

-- src/rows.rt:171:19
pub overflow_cast-self-inside : goal.overflow_cast-self-inside
overflow_cast-self-inside c =
    let a = c.self.inside in
    let few = rw (← c.self.view_is) at c.requires.few in
    omega (arith, few, fields-counted a.entries.items a.elements.items a.row_start c.self.invariant.start c.self.invariant.rows, c.self.invariant.start)

-- src/rows.rt:172:17
pub overflow_cast-len : goal.overflow_cast-len
overflow_cast-len c =
    let a = c.self.inside in
    let few = rw (← c.self.view_is) at c.requires.few in
    omega (arith, few, fields-counted a.entries.items a.elements.items a.row_start c.self.invariant.start c.self.invariant.rows, c.len.ensures, a.entries.ok.0)

-- src/rows.rt:155:5
pub invariant_of-self : goal.invariant_of-self
invariant_of-self c =
    let a = c.self.inside in
    let last : c.len.result ≡ c.len-self-inside.result = c.len.ensures ∙ sym c.len-self-inside.ensures in
    record {
      entries_reserved = c.self.invariant.entries_reserved;
      elements_reserved = omega (arith, c.self.invariant.elements_reserved, c.push_reserved.ensures.capacity);
      columns_reserved = c.self.invariant.columns_reserved;
      start = omega (arith, c.len-self-inside.ensures, a.entries.ok.0);
      rows = rw (c.push_reserved.ensures.items, ← last)
          (LieBetween-row 0 a.row_start a.elements.items _ refl (omega (arith, c.self.invariant.start, c.len.ensures, a.entries.ok.0)) c.self.invariant.rows);
      no_blocks = c.self.invariant.no_blocks;
      no_above = c.self.invariant.no_above;
      columns_few = rw (with_items_is a.columns c.hold.new.columns (c.hold.auto.columns ∙ c.as_mut_slice.ensures.len))
          (omega (arith, c.self.invariant.columns_few, c.hold.auto.columns, c.as_mut_slice.ensures.len, a.columns.ok.0));
      lefts_reserved = c.self.invariant.lefts_reserved;
    }

pub returns : goal.returns
returns c bars =
    let a = c.self.inside in
    let columns = with_items_is a.columns c.hold.new.columns (c.hold.auto.columns ∙ c.as_mut_slice.ensures.len) in
    rw (← c.self.view_is, c.push_reserved.ensures.items, columns)
    (row-ended a.entries.items a.elements.items a.row_start c.len.result c.len-self-inside.result a.columns.items c.hold.new.columns a.entry_room a.element_room a.column_room
    c.args.keys c.args.rules (record { keys = c.args.format.now; bars = bars }) (omega (arith, c.len.ensures, a.entries.ok.0)) (omega (arith, c.len-self-inside.ensures, a.entries.ok.0))
    (rw (c.as_slice.ensures.value, c.as_mut_slice.ensures.value) at (c.hold.ensures bars)
    ∙ ap (λ (es : List Entry). holding (record { keys = c.args.format.now; bars = bars }) es a.columns.items)
    (take_all (length a.entries.items - a.row_start) (drop a.row_start a.entries.items) (omega (arith, length-drop a.row_start a.entries.items)))))
