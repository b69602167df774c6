use Rattle.std.proofs.Common.{◌-◌, set, sym, ap, ◌∙◌}
use Rattle.tbl_format.specs.Format.{asked_by}
use Rattle.tbl_format.specs.declared.format.Asked.{Asked}
use Rattle.tbl_format.proofs.FormatBlocks.{asking-set}
use Rattle.tbl_format.proofs.columns_asked.ask.Goals as goal

pub returns-then-columns-gt0-clause-items : goal.returns-then-columns-gt0-clause-items
returns-then-columns-gt0-clause-items c =
    let asked = c.args.asked.now.items in
    let at = c.args.columns - 1 in
    ap (λ (a : Asked). set asked at a) (c.asked_by.ensures ∙ ap (asked_by c.args.does) c.index.ensures)
    ∙ sym (asking-set (asked_by c.args.does) asked c.args.columns c.index.result.now c.if-columns-gt0.true c.requires)
