use Rattle.std.proofs.Common.{◌≡◌, ◌+◌, ◌-◌, ◌<◌, ◌≤◌, ℕ, List, [], ◌∷◌, ◌++◌, length, take, drop, set, refl, sym, subst, ap, ◌∙◌, arith, append-nil, drop-set-lt, length-set, take-append-drop, take_all}
use Rattle.std.proofs.lemmas.List.{drop_all}
use Rattle.tbl_format.specs.Cells.{by_cells}
use Rattle.tbl_format.specs.declared.format.Asked.{Asked}
use Rattle.tbl_format.specs.declared.format.FormatKey.{FormatKey}
use Rattle.tbl_layout.specs.Columns.{row_stands}
use Rattle.tbl_layout.specs.declared.bars.Bars.{Bars}
use Rattle.tbl_layout.specs.declared.columns.Column.{Column}
use Rattle.tbl_layout.specs.declared.entry.Entry.{Entry}
use Rattle.tbl_kept.specs.Rows.{height_of, held_by}
use Rattle.tbl_kept.specs.RowsLaying.{block_stands, laid_entries}
use Rattle.tbl_layout.specs.KeptEntries.{Lies}
use Rattle.tbl_kept.proofs.CellSteps.{CellsLeft, cell-within, cells-behind, cells-left, is-first, left-order}
use Rattle.tbl_kept.proofs.RowsFilled.{height_of-more}
use Rattle.tbl_kept.proofs.RowsNext.{laid-set, laid_from, next-held, next-laid, no_entry}
use Rattle.tbl_kept.proofs.Stepping.{next-all-set}
use Rattle.tbl_kept.proofs.held_columns.fill_fields.Goals as goal

pub loop-at-init : goal.loop-at-init
loop-at-init c = record {
  entries = refl;
  columns = refl;
  height = refl;
  lie = c.requires.lie;
  left = cells-left (length c.args.filling.asked.now) c.args.keys.now (length c.args.entries.now - 0) c.requires.cells
      (omega (arith, c.requires.short, c.requires.columns));
  many = refl;
  same = refl;
  room = refl;
}

pub cell_behind-cell-requires : goal.cell_behind-cell-requires
cell_behind-cell-requires c =
    omega (
      arith,
      c.requires.few,
      left-order (length c.args.filling.asked.now) c.loop-at.from (drop c.loop-at.at c.args.keys.now) (length c.args.entries.now - c.loop-at.at) c.loop-at.invariant.left,
    )

pub fill_field-entry-requires-clause-order : goal.fill_field-entry-requires-clause-order
fill_field-entry-requires-clause-order c =
    let keys = c.args.keys.now in
    let cell = c.cell_behind-cell.result in
    (cell-within (length c.args.filling.asked.now) c.loop-at.from keys c.loop-at.at (length c.args.entries.now) c.loop-at.invariant.left
    (omega (arith, c.loop-at-test.true, c.loop-at.invariant.many)) cell
    (is-first keys c.loop-at.at c.loop-at.from cell (c.cell_behind-cell.ensures.key 0) c.cell_behind-cell.ensures.from
    c.cell_behind-cell.ensures.end c.cell_behind-cell.ensures.width)).order

pub fill_field-entry-requires-clause-within : goal.fill_field-entry-requires-clause-within
fill_field-entry-requires-clause-within c =
    let keys = c.args.keys.now in
    let cell = c.cell_behind-cell.result in
    (cell-within (length c.args.filling.asked.now) c.loop-at.from keys c.loop-at.at (length c.args.entries.now) c.loop-at.invariant.left
    (omega (arith, c.loop-at-test.true, c.loop-at.invariant.many)) cell
    (is-first keys c.loop-at.at c.loop-at.from cell (c.cell_behind-cell.ensures.key 0) c.cell_behind-cell.ensures.from
    c.cell_behind-cell.ensures.end c.cell_behind-cell.ensures.width)).within

pub loop-at-preserved : goal.loop-at-preserved
loop-at-preserved c =
    let bytes = c.args.bytes.now in
    let filling = c.args.filling in
    let asked = filling.asked.now in
    let keys = c.args.keys.now in
    let entries = c.loop-at.entries in
    let columns = c.loop-at.columns in
    let at = c.loop-at.at in
    let from = c.loop-at.from in
    let count = length c.args.entries.now in
    let cell = c.cell_behind-cell.result in
    let new = c.fill_field-entry.result in
    let i = c.loop-at.invariant in
    let some : at < length entries = omega (arith, c.loop-at-test.true, i.many) in
    let more : at < count = omega (arith, some, i.many) in
    let is = is-first keys at from cell (c.cell_behind-cell.ensures.key 0) c.cell_behind-cell.ensures.from
    c.cell_behind-cell.ensures.end c.cell_behind-cell.ensures.width in
    let left : CellsLeft (length columns) from (drop at keys) (count - at) =
    subst (λ (n : ℕ). CellsLeft n from (drop at keys) (count - at)) (sym (i.same ∙ c.requires.columns)) i.left in
    let behind : List Entry → List Entry = laid_from bytes filling.bars filling.line_length asked cell.end (drop (at + 1) keys) in
    let rest = behind (drop (at + 1) entries) in
    let this : laid_from bytes filling.bars filling.line_length asked from (drop at keys) (drop at entries) ≡ new ∷ rest =
    next-laid bytes filling.bars filling.line_length asked from keys at count cell entries i.left more some is
    ∙ ap (λ (e : Entry). e ∷ rest) (sym c.fill_field-entry.ensures.entry) in
    let later : drop (at + 1) (set entries at new) ≡ drop (at + 1) entries = drop-set-lt (at + 1) entries at new (omega arith) in
    record {
      entries = laid-set entries at new behind some ∙ ap (λ (es : List Entry). take at entries ++ es) (sym this) ∙ i.entries;
      columns = ap (λ (es : List Entry). take cell.end c.fill_field-entry.new.columns
          ++ held_by (row_stands block_stands cell.end (drop (at + 1) keys) (behind es)) (drop cell.end c.fill_field-entry.new.columns)) later
          ∙ next-held block_stands from keys at cell new rest columns c.fill_field-entry.new.columns is
          (cell-within (length columns) from keys at count left more cell is) c.fill_field-entry.ensures.columns
          ∙ ap (λ (es : List Entry). take from columns ++ held_by (row_stands block_stands from (drop at keys) es) (drop from columns)) (sym this)
          ∙ i.columns;
      height = omega (arith, c.max-height.ensures, c.lines.ensures, i.height, height_of-more entries at new some);
      lie = next-all-set (Lies bytes) entries at no_entry new some i.lie;
      left = cells-behind (length asked) from keys at count i.left more cell is;
      many = length-set entries at new ∙ i.many;
      same = c.fill_field-entry.auto.columns ∙ i.same;
      room = c.fill_field-entry.ensures.room ∙ i.room;
    }

-- the end of the loop: no field is left
module _ (bytes : List ℕ) (bars : Bars) (line_length : ℕ) (asked : List Asked) (from at : ℕ) (keys : List FormatKey) (entries : List Entry) (end : length entries ≤ at) where
  no-field : (cells : List (List Asked)) → laid_entries bytes bars line_length (length asked) cells [] ≡ []
  no-field [] = refl
  no-field (own ∷ cells) = refl

  none-left : laid_from bytes bars line_length asked from (drop at keys) (drop at entries) ≡ []
  none-left =
      ap (laid_from bytes bars line_length asked from (drop at keys)) (drop_all at entries end)
      ∙ no-field (by_cells from (drop at keys) (drop from asked))

  all-entries : take at entries ++ laid_from bytes bars line_length asked from (drop at keys) (drop at entries) ≡ entries
  all-entries = ap (λ (es : List Entry). take at entries ++ es) none-left ∙ append-nil (take at entries) ∙ take_all at entries end

  all-columns : (columns : List Column) → take from columns
      ++ held_by (row_stands block_stands from (drop at keys) (laid_from bytes bars line_length asked from (drop at keys) (drop at entries))) (drop from columns)
      ≡ columns
  all-columns columns =
      ap (λ (es : List Entry). take from columns ++ held_by (row_stands block_stands from (drop at keys) es) (drop from columns)) none-left
      ∙ take-append-drop from columns

pub returns-clause-entries : goal.returns-clause-entries
returns-clause-entries c =
    let filling = c.args.filling in
    let end : length c.loop-at.entries ≤ c.loop-at.at = omega (arith, c.loop-at-test.false, c.loop-at.invariant.many) in
    sym (all-entries c.args.bytes.now filling.bars filling.line_length filling.asked.now c.loop-at.from c.loop-at.at c.args.keys.now c.loop-at.entries end)
    ∙ c.loop-at.invariant.entries

pub returns-clause-columns : goal.returns-clause-columns
returns-clause-columns c =
    let filling = c.args.filling in
    let keys = c.args.keys.now in
    let end : length c.loop-at.entries ≤ c.loop-at.at = omega (arith, c.loop-at-test.false, c.loop-at.invariant.many) in
    let entries = sym (all-entries c.args.bytes.now filling.bars filling.line_length filling.asked.now c.loop-at.from c.loop-at.at keys c.loop-at.entries end)
    ∙ c.loop-at.invariant.entries in
    sym (all-columns c.args.bytes.now filling.bars filling.line_length filling.asked.now c.loop-at.from c.loop-at.at keys c.loop-at.entries end c.loop-at.columns)
    ∙ c.loop-at.invariant.columns
    ∙ ap (λ (es : List Entry). held_by (row_stands block_stands 0 keys es) c.args.columns.now) (sym entries)

pub returns-clause-height : goal.returns-clause-height
returns-clause-height c =
    let end : length c.loop-at.entries ≤ c.loop-at.at = omega (arith, c.loop-at-test.false, c.loop-at.invariant.many) in
    c.loop-at.invariant.height ∙ ap height_of (take_all c.loop-at.at c.loop-at.entries end)
