use Rattle.std.proofs.Common.{◌≡◌, map, sym, ap, subst, ◌∙◌, arith}
use Rattle.tbl_lines.specs.LinesLeft.{shown_cell}
use Rattle.tbl_lines.specs.PictureLines.{line_of, with_fronts}
use Rattle.tbl_line_cells.specs.LinesDrawn.{Draws, KeptLine, as_row, if_any, kept_line}
use Rattle.tbl_line_cells.proofs.LineGiven.{row-draws, row-filled}
use Rattle.tbl_line_cells.proofs.line_cells.LineCells.finish.Goals as goal

pub returns-clause-draws : goal.returns-clause-draws
returns-clause-draws c = λ bytes bars width done fronts so_far many.
    let old = kept_line c.args.self.now in
    let new = kept_line c.loop-at.self in
    let going = c.loop-at.invariant in
    let row : new ≡ as_row old
    = ap kept_line going.line
    ∙ row-filled old new.columns new.keys new.entries new.places c.loop-at.at
    (omega (arith, c.loop-at-test.false, c.len-at-end.ensures)) going.columns going.keys going.entries going.places in
    let text = line_of 0 (with_fronts (if_any bars fronts) (map shown_cell done)) in
    subst (λ (line : KeptLine). Draws bytes bars width line text) (sym row)
    (row-draws bytes bars width old done fronts so_far many c.requires.few)
