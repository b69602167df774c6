use Rattle.std.proofs.Common.{sym, ap, ◌∙◌}
use Rattle.tbl_format.specs.declared.format.FormatKey.{FormatKey}
use Rattle.tbl_format.proofs.CellsBehind.{end_of-read}
use Rattle.tbl_format.proofs.cells.end_of.Goals as goal

pub returns-in-Some-clause-value : goal.returns-in-Some-clause-value
returns-in-Some-clause-value c =
    let k = c.in-Some.key.now in
    let read = c.in-Some.ensures.lookup in
    ap (λ (q : FormatKey). q.end) read.1 ∙ sym (end_of-read c.args.keys.now c.args.cell k read.3.0)
