use Rattle.std.proofs.Common.{◌≡◌, ℕ, suc, ◌-◌, ◌<◌, length, drop, map, refl, sym, subst, ◌∙◌, arith}
use Rattle.std.proofs.lemmas.List.{drop_all, length-map}
use Rattle.tbl_lines.specs.RowsLeft.{cell_left, first_cell, row_columns}
use Rattle.tbl_lines.specs.RowsWalked.{AreGlyphless, LastHasGlyph}
use Rattle.tbl_lines.proofs.GivenFields.{first-left}
use Rattle.tbl_lines.proofs.RowColumns.{length-places, length-row_columns}
use Rattle.tbl_lines.proofs.RunsGiven.{glyphless-more, last-at, last-none}
use Rattle.tbl_lines.specs.RowsLent.{lent_columns, lent_entries, lent_format}
use Rattle.tbl_lines.proofs.row_columns.count_to_glyph.Goals as goal

pub loop-count-init : goal.loop-count-init
loop-count-init c =
    let row = c.args.row.now in
    let places = c.args.places.now in
    let all = row_columns row.bars.boxing (lent_format row) 0 (lent_columns row) (lent_entries row) places in
    let cells = map (cell_left row.bytes.now c.args.line) all in
    let n = length places in
    let given = length-places row.bytes.now (lent_entries row) places c.requires.cells.places in
    let many = length-row_columns row.bars.boxing (lent_format row) row.bytes.now 0 (lent_columns row) (lent_entries row) places c.requires.cells.short c.requires.cells.places in
    let many_cells : length cells ≡ length all = length-map all (cell_left row.bytes.now c.args.line) in
    record {
      few = omega (arith, given);
      behind = subst AreGlyphless (sym (drop_all n cells (omega (arith, many, many_cells, given)))) tt;
      room = refl;
    }

pub returns-then-has_glyph_at-clause-last : goal.returns-then-has_glyph_at-clause-last
returns-then-has_glyph_at-clause-last c =
    let row = c.args.row.now in
    let places = c.args.places.now in
    let n = c.loop-count.count - 1 in
    let all = row_columns row.bars.boxing (lent_format row) 0 (lent_columns row) (lent_entries row) places in
    let cells = map (cell_left row.bytes.now c.args.line) all in
    let many = length-row_columns row.bars.boxing (lent_format row) row.bytes.now 0 (lent_columns row) (lent_entries row) places c.requires.cells.short c.requires.cells.places in
    let few : n < length cells = omega (arith, c.loop-count-test.true, c.loop-count.invariant.few, many, length-map all (cell_left row.bytes.now c.args.line)) in
    let same : suc n ≡ c.loop-count.count = omega (arith, c.loop-count-test.true) in
    subst (λ (k : ℕ). LastHasGlyph k cells) same
    (last-at n cells (first_cell (drop n cells)) (drop (suc n) cells) (first-left n cells few) (c.has_glyph_at.ensures.yes c.if-has_glyph_at.true))

pub loop-count-preserved : goal.loop-count-preserved
loop-count-preserved c =
    let row = c.args.row.now in
    let places = c.args.places.now in
    let n = c.loop-count.count - 1 in
    let all = row_columns row.bars.boxing (lent_format row) 0 (lent_columns row) (lent_entries row) places in
    let cells = map (cell_left row.bytes.now c.args.line) all in
    let many = length-row_columns row.bars.boxing (lent_format row) row.bytes.now 0 (lent_columns row) (lent_entries row) places c.requires.cells.short c.requires.cells.places in
    let few : n < length cells = omega (arith, c.loop-count-test.true, c.loop-count.invariant.few, many, length-map all (cell_left row.bytes.now c.args.line)) in
    let same : c.loop-count.count ≡ suc n = omega (arith, c.loop-count-test.true) in
    record {
      few = omega (arith, c.loop-count.invariant.few);
      behind = glyphless-more n cells (first_cell (drop n cells)) (first-left n cells few) (c.has_glyph_at.ensures.no c.if-has_glyph_at.false)
          (subst (λ (k : ℕ). AreGlyphless (drop k cells)) same c.loop-count.invariant.behind);
      room = c.has_glyph_at.ensures.room ∙ c.loop-count.invariant.room;
    }

pub returns-clause-last : goal.returns-clause-last
returns-clause-last c =
    let row = c.args.row.now in
    last-none (map (cell_left row.bytes.now c.args.line) (row_columns row.bars.boxing (lent_format row) 0 (lent_columns row) (lent_entries row) c.args.places.now))
