use Rattle.std.proofs.Common.{◌∷◌, length, drop, suc, ◌<◌, get_or, map, List, ap, sym, ◌∙◌, arith}
use Rattle.std.specs.Option.{option_map}
use Rattle.std.proofs.Math.Seq.{drop-cons}
use Rattle.std.proofs.lemmas.List.{length-map}
use Rattle.tbl_lines.specs.PictureLines.{Cell}
use Rattle.tbl_lines.specs.RowsLeft.{cell_of_front}
use Rattle.tbl_lines.specs.RowsLent.{lent_row}
use Rattle.tbl_lines.specs.declared.fronts.Front.TheVariants.{Nothing}
use Rattle.tbl_lines.proofs.CellsLent.{cells-few-columns}
use Rattle.tbl_lines.proofs.FrontCells.{any-front, count-fronts, fronts-given}
use Rattle.tbl_lines.proofs.FrontsLent.{fronts-lent}
use Rattle.tbl_lines.proofs.RowColumns.{map-at}
use Rattle.tbl_lines.proofs.fronts.front_at.Goals as goal

pub offset_bounds-fronts-at : goal.offset_bounds-fronts-at
offset_bounds-fronts-at c =
    let row = c.args.row.now in
    let any = any-front (lent_row row) c.args.at c.requires.within in
    omega (
      arith,
      c.requires.within,
      c.requires.lies.few,
      count-fronts (lent_row row) (fronts-lent row c.requires.lies) any,
      cells-few-columns row.keys.now row.columns.now c.requires.lies.cells,
    )

pub returns-in-Some-clause-at : goal.returns-in-Some-clause-at
returns-in-Some-clause-at c =
    let row = c.args.row.now in
    let at = c.args.at in
    let fronts = c.in-Some.fronts.now in
    let any = any-front (lent_row row) at c.requires.within in
    let same = fronts-given (lent_row row) (map cell_of_front fronts) any (ap (option_map (λ f. map cell_of_front f.now)) c.in-Some.is) in
    let few : at < length fronts = omega (arith, c.requires.within, ap length same, length-map fronts cell_of_front) in
    ap (drop at) same
    ∙ map-at cell_of_front at fronts (get_or fronts at Nothing) (drop-cons fronts at Nothing few)
    ∙ ap (λ (cells : List Cell). cell_of_front (get_or fronts at Nothing) ∷ drop (suc at) cells) (sym same)
