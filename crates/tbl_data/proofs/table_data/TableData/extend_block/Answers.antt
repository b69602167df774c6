use Rattle.std.proofs.Common.{sym, subst}
use Rattle.tbl_data.specs.LineTaken.{Makes, text_made}
use Rattle.tbl_data.specs.declared.phase.Phase.TheVariants.{InData}
use Rattle.tbl_data.proofs.BlockSteps.{extends-dropped, extends-kept, extends-none}
use Rattle.tbl_kept.specs.Rows.{KeptRows}
use Rattle.tbl_data.proofs.table_data.TableData.extend_block.Goals as goal

pub returns-in-Nothing-clause-made : goal.returns-in-Nothing-clause-made
returns-in-Nothing-clause-made c k lies plain fits behind = extends-none k c.args.line lies plain c.args.self.now fits c.in-Nothing.is

pub returns-in-Kept-clause-made : goal.returns-in-Kept-clause-made
returns-in-Kept-clause-made c k lies plain fits behind =
    let d = c.args.self.now in
    subst (λ (rows : KeptRows). Makes k c.args.line 0 (text_made k c.args.line) InData d (record d { rows = rows })) (sym c.extend_block.ensures)
    (extends-kept k c.args.line lies plain d fits c.in-Kept.is behind)

pub returns-in-Dropped-clause-made : goal.returns-in-Dropped-clause-made
returns-in-Dropped-clause-made c k lies plain fits behind = extends-dropped k c.args.line lies plain c.args.self.now fits _ c.in-Dropped.is
