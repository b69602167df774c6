use Rattle.std.proofs.Common.{◌-◌, ◌++◌, length, take, drop, sym, ap, subst, ◌∙◌, arith}
use Rattle.std.specs.List.{slice_range}
use Rattle.std.proofs.lemmas.List.{with_items_is}
use Rattle.tbl_format.specs.RowsServed.{all_rows, row_at}
use Rattle.tbl_text.proofs.BlockSlices.{length-slice_range}
use Rattle.tbl_kept.specs.Rows.{ElementKept, KeptElement}
use Rattle.tbl_kept.specs.RowsLaying.{NoBlocks, NoneGoOn}
use Rattle.tbl_kept.proofs.RowsAlone.{none_go_on-changed, none_go_on-laid, none_go_on-part}
use Rattle.tbl_kept.proofs.RowPlaces.{LieBetween-set, kept-there, length-changed, part-changed, row-there}
use Rattle.tbl_kept.proofs.RowsFilled.{fields-lie, length-laid}
use Rattle.tbl_kept.proofs.RowsUnfilled.{no_blocks-changed, no_blocks-laid, no_blocks-part}
use Rattle.tbl_kept.proofs.RowsLaidOut.{row-laid}
use Rattle.tbl_kept.proofs.rows.TableRows.fill_row.Goals as goal

pub slice_bounds-entries-count : goal.slice_bounds-entries-count
slice_bounds-entries-count c = (row-there c.self.invariant (rw (← c.self.view_is) at c.requires.at) c.index.ensures c.in-Row.is).order

pub slice_bounds-entries-start : goal.slice_bounds-entries-start
slice_bounds-entries-start c = slice_bounds-entries-count c

pub slice_bounds-entries-end : goal.slice_bounds-entries-end
slice_bounds-entries-end c =
    let row = row-there c.self.invariant (rw (← c.self.view_is) at c.requires.at) c.index.ensures c.in-Row.is in
    omega (arith, row.within, c.as_mut_slice.ensures.len, c.self.inside.entries.ok.0)

pub fill_fields-height-requires : goal.fill_fields-height-requires
fill_fields-height-requires c =
    let a = c.self.inside in
    let r = c.in-Row.row in
    let bytes = c.args.bytes.now in
    let formats = all_rows c.args.format.now.format in
    let columns = rw (← c.self.view_is) at c.requires.columns in
    let kept = rw (← c.self.view_is) at c.requires.kept in
    let is = kept-there c.self.inside (rw (← c.self.view_is) at c.requires.at) c.index.ensures c.in-Row.is in
    let row = subst (λ (e : KeptElement). ElementKept bytes formats (length a.columns.items) e) is kept in
    record {
      small = c.requires.small;
      cells = rw c.requires.asked c.row_of_all-keys.ensures.within;
      columns = rw c.as_mut_slice-columns.ensures.value (columns ∙ ap length (sym c.requires.asked));
      few = c.requires.few;
      short = rw (c.as_mut_slice.ensures.value, c.as_mut_slice-columns.ensures.value, c.row_of_all-keys.ensures.keys) row.short;
      lie = rw c.as_mut_slice.ensures.value (fields-lie bytes (row_at formats r.keys) 0 (slice_range a.entries.items r.from r.to) row.kept);
    }

pub invariant_of-self : goal.invariant_of-self
invariant_of-self c =
    let a = c.self.inside in
    let r = c.in-Row.row in
    let is = sym c.index.ensures ∙ c.in-Row.is in
    let row = row-there c.self.invariant (rw (← c.self.view_is) at c.requires.at) c.index.ensures c.in-Row.is in
    let part = c.fill_fields-height.new.entries in
    let laid = rw c.as_mut_slice.ensures.value at c.fill_fields-height.ensures.entries in
    let len = ap length laid ∙ length-laid c.args.bytes.now c.args.filling.bars c.args.filling.line_length (length c.args.filling.asked.now) _ _
    ∙ length-slice_range a.entries.items r.from r.to row.within in
    let whole = length-changed a.entries.items part r.from r.to row.order row.within len in
    let fields = take r.from a.entries.items ++ (part ++ drop (r.to - r.from) (drop r.from a.entries.items)) in
    let written = with_items_is a.entries fields (whole ∙ sym a.entries.ok.0) in
    record {
      entries_reserved = c.self.invariant.entries_reserved;
      elements_reserved = c.self.invariant.elements_reserved;
      columns_reserved = c.self.invariant.columns_reserved;
      start = rw (c.as_mut_slice.ensures.value, written) (omega (arith, c.self.invariant.start, whole));
      rows = rw c.with_height.ensures
          (LieBetween-set r c.fill_fields-height.result 0 a.row_start c.args.at a.elements.items c.index.result.now row.more is c.self.invariant.rows);
      no_blocks = λ none. rw (c.as_mut_slice.ensures.value, written)
          (no_blocks-changed a.entries.items part r.from (r.to - r.from) (c.self.invariant.no_blocks none)
          (subst NoBlocks (sym laid)
          (no_blocks-laid c.args.bytes.now c.args.filling.bars c.args.filling.line_length c.args.filling.asked.now c.row_of_all-keys.result.now _
          (no_blocks-part a.entries.items r.from r.to (c.self.invariant.no_blocks none)))));
      no_above = λ none. rw (c.as_mut_slice.ensures.value, written)
          (none_go_on-changed a.entries.items part r.from (r.to - r.from) (c.self.invariant.no_above none)
          (subst NoneGoOn (sym laid)
          (none_go_on-laid c.args.bytes.now c.args.filling.bars c.args.filling.line_length c.args.filling.asked.now c.row_of_all-keys.result.now _
          (none_go_on-part a.entries.items r.from r.to (c.self.invariant.no_above none)))));
      columns_few = rw (with_items_is a.columns c.fill_fields-height.new.columns (c.fill_fields-height.auto.columns ∙ c.as_mut_slice-columns.ensures.len))
          (omega (arith, c.self.invariant.columns_few, c.fill_fields-height.auto.columns, c.as_mut_slice-columns.ensures.len, a.columns.ok.0));
      lefts_reserved = c.self.invariant.lefts_reserved;
    }

pub returns-in-Row-clause-value : goal.returns-in-Row-clause-value
returns-in-Row-clause-value c =
    let a = c.self.inside in
    let r = c.in-Row.row in
    let is = sym c.index.ensures ∙ c.in-Row.is in
    let row = row-there c.self.invariant (rw (← c.self.view_is) at c.requires.at) c.index.ensures c.in-Row.is in
    let part = c.fill_fields-height.new.entries in
    let laid = rw c.as_mut_slice.ensures.value at c.fill_fields-height.ensures.entries in
    let len = ap length laid ∙ length-laid c.args.bytes.now c.args.filling.bars c.args.filling.line_length (length c.args.filling.asked.now) _ _
    ∙ length-slice_range a.entries.items r.from r.to row.within in
    let whole = length-changed a.entries.items part r.from r.to row.order row.within len in
    let fields = take r.from a.entries.items ++ (part ++ drop (r.to - r.from) (drop r.from a.entries.items)) in
    let written = with_items_is a.entries fields (whole ∙ sym a.entries.ok.0) in
    let formats = all_rows c.args.format.now.format in
    let filling = c.args.filling in
    let columns = with_items_is a.columns c.fill_fields-height.new.columns (c.fill_fields-height.auto.columns ∙ c.as_mut_slice-columns.ensures.len) in
    rw (← c.self.view_is, c.as_mut_slice.ensures.value, c.with_height.ensures, written, columns)
    (row-laid a.entries.items fields part a.elements.items a.row_start c.args.at r
    c.index.result.now a.columns.items c.fill_fields-height.new.columns a.entry_room a.element_room a.column_room c.fill_fields-height.result c.args.bytes.now formats
    filling.bars filling.line_length filling.asked.now row.more is
    c.self.invariant.rows (part-changed a.entries.items part r.from r.to row.order row.within len) c.fill_fields-height.ensures.height
    (rw (c.as_mut_slice.ensures.value, c.row_of_all-keys.ensures.keys) at c.fill_fields-height.ensures.entries)
    (rw (c.as_mut_slice-columns.ensures.value, c.row_of_all-keys.ensures.keys) at c.fill_fields-height.ensures.columns))
