use Rattle.std.proofs.Common.{suc, drop, sym, ap, subst, ◌∙◌, arith}
use Rattle.tbl_format.specs.RowsServed.{all_rows}
use Rattle.tbl_format.specs.declared.format.FormatKey.{FormatKey}
use Rattle.tbl_kept.specs.RowsLaying.{element_at}
use Rattle.tbl_lines.specs.CellsLeft.{Left, gone_on}
use Rattle.tbl_tall.proofs.RowsComing.{key-begun}
use Rattle.tbl_tall.proofs.next_cells.cell_of.Goals as goal
use Rattle.tbl_line_cells.specs.KeptCells.{IsLeft}
use Rattle.tbl_tall.specs.RowsNext.{begun_kept}
use Rattle.tbl_line_cells.specs.declared.cells.CellLeft.{CellLeft}

pub returns-in-Some-clause-left : goal.returns-in-Some-clause-left
returns-in-Some-clause-left c = λ bytes above lefts laid there all letter.
    let elements = c.args.rows.now.elements in
    let formats = all_rows c.args.format.now.format in
    let row = element_at elements c.args.row.at in
    let es = drop (suc c.args.row.at) elements in
    let new = begun_kept bytes formats c.args.is_inside row es c.args.cell c.args.key in
    let goes = c.in-Some.ensures.left bytes above lefts new there all in
    subst (λ (l : Left). IsLeft bytes c.gone_on.result l)
    (sym (goes.is ∙ ap (λ (k : FormatKey). gone_on k goes.left) (key-begun bytes formats c.args.is_inside row es c.args.cell c.args.key)))
    (c.gone_on.ensures.left bytes goes.left goes.kept)

pub returns-in-Some-clause-key : goal.returns-in-Some-clause-key
returns-in-Some-clause-key c = record {
  bars = ap (λ (x : CellLeft). x.key.bars) c.gone_on.ensures.value;
  end = ap (λ (x : CellLeft). x.key.end) c.gone_on.ensures.value;
}

pub returns-in-Some-clause-come : goal.returns-in-Some-clause-come
returns-in-Some-clause-come c = λ n all.
    let few = c.in-Some.ensures.come n all in
    let rows = ap (λ (x : CellLeft). x.rows) c.gone_on.ensures.value in
    omega (arith, few, rows)

pub returns-in-None-clause-left : goal.returns-in-None-clause-left
returns-in-None-clause-left c = λ bytes above lefts laid there all letter.
    let elements = c.args.rows.now.elements in
    let formats = all_rows c.args.format.now.format in
    let row = element_at elements c.args.row.at in
    let es = drop (suc c.args.row.at) elements in
    let new = begun_kept bytes formats c.args.is_inside row es c.args.cell c.args.key in
    subst (λ (l : Left). IsLeft bytes c.begun.result l) (sym (c.in-None.ensures.left bytes above lefts new there all))
    (c.begun.ensures.left bytes laid letter)
