use Rattle.std.proofs.Common.{◌≡◌, List, [], sym, subst, ap, ◌∙◌, arith}
use Rattle.std.specs.List.{slice_range}
use Rattle.tbl_format.specs.RowsServed.{all_rows, row_at}
use Rattle.tbl_format.specs.declared.format.FormatKey.{FormatKey}
use Rattle.tbl_layout.specs.KeptEntries.{stands_of}
use Rattle.tbl_layout.specs.Spans.{Wide, all_fitted, wide_entries}
use Rattle.tbl_kept.specs.Rows.{KeptElement}
use Rattle.tbl_kept.specs.RowsInside.{kept_by}
use Rattle.tbl_kept.specs.RowsLaying.{wide_in}
use Rattle.tbl_kept.proofs.FieldsFitted.{none-wide}
use Rattle.tbl_kept.proofs.RowPlaces.{kept-there, row-there}
use Rattle.tbl_kept.proofs.rows.TableRows.fit_row.Goals as goal

pub slice_bounds-fit_fields-count : goal.slice_bounds-fit_fields-count
slice_bounds-fit_fields-count c = (row-there c.self.invariant (rw (← c.self.view_is) at c.requires.at) c.index.ensures c.in-Row.is).order

pub slice_bounds-fit_fields-start : goal.slice_bounds-fit_fields-start
slice_bounds-fit_fields-start c = slice_bounds-fit_fields-count c

pub slice_bounds-fit_fields-end : goal.slice_bounds-fit_fields-end
slice_bounds-fit_fields-end c =
    let row = row-there c.self.invariant (rw (← c.self.view_is) at c.requires.at) c.index.ensures c.in-Row.is in
    omega (arith, row.within, c.as_slice.ensures.len, c.self.inside.entries.ok.0)

pub returns-else-columns_of-keys : goal.returns-else-columns_of-keys
returns-else-columns_of-keys c =
    let a = c.self.inside in
    let r = c.in-Row.row in
    let formats = all_rows c.args.format.now.format in
    let keys = c.row_of_all-keys in
    let fields = slice_range a.entries.items r.from r.to in
    let is = kept-there c.self.inside (rw (← c.self.view_is) at c.requires.at) c.index.ensures c.in-Row.is in
    let none : wide_entries stands_of 0 (row_at formats r.keys).keys fields ≡ [] =
    subst (λ (ks : List FormatKey). wide_entries stands_of 0 ks fields ≡ []) keys.ensures.keys
    (none-wide keys.result.now fields keys.ensures.within.cells (sym c.columns_of.ensures.value ∙ c.if-columns_of-keys.false)) in
    rw (← c.self.view_is) (ap (λ (ws : List Wide). record (kept_by a) { columns = all_fitted c.args.bars c.args.format.now.format.asked ws a.columns.items })
    (sym (ap (λ (e : KeptElement). wide_in formats e) is ∙ none)))
