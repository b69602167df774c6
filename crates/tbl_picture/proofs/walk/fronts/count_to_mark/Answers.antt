use Rattle.std.proofs.Common.{◌≡◌, ◌<◌, ℕ, suc, ◌+◌, ◌-◌, drop, length, refl, sym, subst, ◌∙◌, arith}
use Rattle.std.proofs.lemmas.List.{drop_all}
use Rattle.tbl_format.proofs.CellColumns.{cells-few}
use Rattle.tbl_lines.specs.RowsLeft.{first_cell}
use Rattle.tbl_lines.specs.RowsLent.{LiesInColumns, lent_columns}
use Rattle.tbl_lines.specs.RowsWalked.{AreGlyphless, LastHasGlyph}
use Rattle.tbl_lines.specs.declared.row_lent.RowLent.{RowLent}
use Rattle.tbl_picture.specs.Walks.{lent_row, line_cells}
use Rattle.tbl_lines.proofs.CellsLent.{length-cells_of}
use Rattle.tbl_lines.proofs.FrontsLent.{fronts-lent}
use Rattle.tbl_lines.proofs.RowColumns.{length-places}
use Rattle.tbl_lines.proofs.RowMarks.{first-left, many-cells}
use Rattle.tbl_lines.proofs.RunsGiven.{glyphless-more, last-at, last-none}
use Rattle.tbl_picture.proofs.walk.fronts.count_to_mark.Goals as goal

-- a row has no more cells than there are columns
few-cells : (row : RowLent) → LiesInColumns row → length (lent_columns row) < 4294967296
few-cells row lies =
    let keys = row.keys.now in
    omega (arith, length-cells_of keys row.columns.now lies.cells, cells-few keys lies.cells.cells, lies.cells.short, lies.few)

pub overflow_add-count : goal.overflow_add-count
overflow_add-count c =
    let row = lent_row c.args.row.now in
    let given = length-places row.bytes row.entries c.args.places.now c.requires.cells.places in
    omega (arith, c.max.ensures, c.cells.ensures, few-cells c.args.row.now c.requires.lies, c.requires.cells.short, given)

pub overflow_add-count-2 : goal.overflow_add-count-2
overflow_add-count-2 c =
    let row = lent_row c.args.row.now in
    let given = length-places row.bytes row.entries c.args.places.now c.requires.cells.places in
    omega (arith, c.max.ensures, c.cells.ensures, few-cells c.args.row.now c.requires.lies, c.requires.cells.short, given)

pub loop-count-init : goal.loop-count-init
loop-count-init c =
    let row = lent_row c.args.row.now in
    let cells = line_cells row c.args.line c.args.places.now in
    let n = length c.args.places.now + c.max.result + 1 in
    let given = length-places row.bytes row.entries c.args.places.now c.requires.cells.places in
    let many = many-cells row c.args.line c.args.places.now c.requires.cells.short c.requires.cells.places (fronts-lent c.args.row.now c.requires.lies) c.requires.any in
    record {
      few = omega (arith, many, given, c.max.ensures, c.cells.ensures);
      behind = subst AreGlyphless (sym (drop_all n cells (omega (arith, many, given, c.max.ensures, c.cells.ensures)))) tt;
      room = refl;
    }

pub has_mark-requires-clause-within : goal.has_mark-requires-clause-within
has_mark-requires-clause-within c = omega (arith, c.loop-count-test.true, c.loop-count.invariant.few)

pub returns-then-has_mark-clause-last : goal.returns-then-has_mark-clause-last
returns-then-has_mark-clause-last c =
    let cells = line_cells (lent_row c.args.row.now) c.args.line c.args.places.now in
    let n = c.loop-count.count - 1 in
    let same : suc n ≡ c.loop-count.count = omega (arith, c.loop-count-test.true) in
    let few : n < length cells = omega (arith, c.loop-count-test.true, c.loop-count.invariant.few) in
    subst (λ (k : ℕ). LastHasGlyph k cells) same
    (last-at n cells (first_cell (drop n cells)) (drop (suc n) cells) (first-left n cells few) (c.has_mark.ensures.yes c.if-has_mark.true))

pub loop-count-preserved : goal.loop-count-preserved
loop-count-preserved c =
    let cells = line_cells (lent_row c.args.row.now) c.args.line c.args.places.now in
    let n = c.loop-count.count - 1 in
    let same : c.loop-count.count ≡ suc n = omega (arith, c.loop-count-test.true) in
    let few : n < length cells = omega (arith, c.loop-count-test.true, c.loop-count.invariant.few) in
    record {
      few = omega (arith, c.loop-count.invariant.few);
      behind = glyphless-more n cells (first_cell (drop n cells)) (first-left n cells few) (c.has_mark.ensures.no c.if-has_mark.false)
          (subst (λ (k : ℕ). AreGlyphless (drop k cells)) same c.loop-count.invariant.behind);
      room = c.has_mark.ensures.room ∙ c.loop-count.invariant.room;
    }

pub returns-clause-last : goal.returns-clause-last
returns-clause-last c = last-none (line_cells (lent_row c.args.row.now) c.args.line c.args.places.now)
