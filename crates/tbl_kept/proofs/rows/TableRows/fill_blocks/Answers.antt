use Rattle.std.proofs.Common.{length, sym, ap}
use Rattle.tbl_format.specs.RowsServed.{all_rows}
use Rattle.tbl_kept.specs.Rows.{KeptRows}
use Rattle.tbl_kept.proofs.RowsUnfilled.{all_laid-unfilled}
use Rattle.tbl_kept.proofs.rows.TableRows.fill_blocks.Goals as goal

-- src/rows/laying.rt:145:5
pub returns-else-self-clause-value : goal.returns-else-self-clause-value
returns-else-self-clause-value c =
    let a = c.self.inside in
    let k = c.args.self.now in
    let filling = c.args.filling in
    all_laid-unfilled c.args.bytes.now (all_rows c.args.format.now.format) filling.bars filling.line_length filling.asked.now (length k.columns) k a.entries.items a.elements.items
    (ap (λ (r : KeptRows). r.elements) (sym c.self.view_is)) (c.self.invariant.no_blocks c.if-self.false) c.requires.kept
