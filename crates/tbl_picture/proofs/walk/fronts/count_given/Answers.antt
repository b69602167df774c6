use Rattle.std.proofs.Common.{List, drop, length, sym, ap, subst, arith}
use Rattle.tbl_lines.specs.PictureLines.{Cell}
use Rattle.tbl_lines.specs.RowsWalked.{AreGlyphless, LastHasGlyph}
use Rattle.tbl_picture.specs.Walks.{lent_row}
use Rattle.tbl_lines.proofs.RowMarks.{many-fields, plain-cells}
use Rattle.tbl_picture.proofs.walk.fronts.count_given.Goals as goal

pub returns-else-row-clause-few : goal.returns-else-row-clause-few
returns-else-row-clause-few c =
    let row = lent_row c.args.row.now in
    let places = c.args.places.now in
    omega (
      arith,
      c.count_to_glyph.ensures.few,
      ap length (plain-cells row c.args.line places c.if-row.false),
      many-fields row c.args.line places c.requires.cells.short c.requires.cells.places,
    )

pub returns-else-row-clause-last : goal.returns-else-row-clause-last
returns-else-row-clause-last c =
    subst (LastHasGlyph c.count_to_glyph.result) (sym (plain-cells (lent_row c.args.row.now) c.args.line c.args.places.now c.if-row.false))
    c.count_to_glyph.ensures.last

pub returns-else-row-clause-behind : goal.returns-else-row-clause-behind
returns-else-row-clause-behind c =
    subst (λ (cells : List Cell). AreGlyphless (drop c.count_to_glyph.result cells))
    (sym (plain-cells (lent_row c.args.row.now) c.args.line c.args.places.now c.if-row.false)) c.count_to_glyph.ensures.behind
