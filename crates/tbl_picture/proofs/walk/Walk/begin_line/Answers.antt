use Rattle.std.proofs.Common.{◌≤◌, ◌<◌, List, refl, sym, ap, subst, ◌∙◌, drop, length, codes, arith}
use Rattle.tbl_lines.specs.PictureLines.{Cell}
use Rattle.tbl_lines.specs.RowsWalked.{AreGlyphless, LastHasGlyph}
use Rattle.tbl_lines.specs.declared.row_lent.RowLent.{RowLent}
use Rattle.tbl_lines.proofs.CellsLent.{cells-few-columns}
use Rattle.tbl_picture.specs.Walks.{BeforeLine, KeptWalk, LiesInColumns, RowSteps, kept_by, lent_row, line_cells, next_column}
use Rattle.tbl_pieces.proofs.Adding.{adds-fewer}
use Rattle.tbl_picture.proofs.LineSteps.{begun-line}
use Rattle.tbl_picture.proofs.walk.Walk.begin_line.Goals as goal
use Rattle.tbl_picture.specs.Nexts.{Next, next_by}
use Rattle.tbl_text.specs.declared.block_parts.BlockPlace.{BlockPlace}

-- a row has so many cells at the most
few-columns : (row : RowLent) → LiesInColumns row → length (lent_row row).columns < 4294967296
few-columns row lies = omega (arith, lies.few, cells-few-columns row.keys.now row.columns.now lies.cells)

pub returns-clause-steps : goal.returns-clause-steps
returns-clause-steps c = λ frame.
    let row = lent_row c.args.row.now in
    let w = kept_by c.self.inside in
    let view = c.self.view_is in
    let count = c.count_given-self-inside.result in
    let found = c.count_given-self-inside.ensures in
    let places = c.as_slice.ensures.value in
    let cells : List BlockPlace → List Cell = λ ps. line_cells row w.line ps in
    let before = c.args.pieces.now in
    let after = c.add.new.self in
    let steps = begun-line row w frame before after count (ap (λ (k : KeptWalk). k.next) view ∙ c.requires.next)
    (subst (λ (k : KeptWalk). BeforeLine row k) (sym view) c.requires.before) (few-columns c.args.row.now c.requires.lies) (subst (λ (ps : List BlockPlace). count ≤ length (cells ps)) places found.few)
    (subst (λ (ps : List BlockPlace). LastHasGlyph count (cells ps)) places found.last)
    (subst (λ (ps : List BlockPlace). AreGlyphless (drop count (cells ps))) places found.behind)
    (adds-fewer row.bytes frame 1 4 before after (codes "\\&") (omega arith) (c.add.ensures.adds row.bytes frame refl)) in
    let new : Next → List BlockPlace → KeptWalk = λ next behind. record w { count = count; place = 0; next = next; behind = behind } in
    subst (λ (k : KeptWalk). RowSteps frame row k (new (next_by c.next_column-self-inside.result c.self.inside.rule) c.clear.new.self.items) before after) view
    (subst (λ (next : Next). RowSteps frame row w (new next c.clear.new.self.items) before after) (sym (c.next_column-self-inside.ensures c.self.inside.rule))
    (subst (λ (behind : List BlockPlace). RowSteps frame row w (new (next_column row.bars.has_any 0) behind) before after) (sym c.clear.ensures.items) steps))
