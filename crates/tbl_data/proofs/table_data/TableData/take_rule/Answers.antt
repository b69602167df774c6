use Rattle.std.proofs.Common.{sym, subst}
use Rattle.tbl_data.specs.LineTaken.{Makes, made_by}
use Rattle.tbl_data.specs.declared.phase.Phase.TheVariants.{InData}
use Rattle.tbl_data.proofs.LineSteps.{rule-kept}
use Rattle.tbl_kept.specs.Rows.{KeptRows}
use Rattle.tbl_layout.specs.declared.data_lines.LineKind.TheVariants.{Rule}
use Rattle.tbl_data.proofs.table_data.TableData.take_rule.Goals as goal

pub returns : goal.returns
returns c = record {
  made = λ k line fits closed.
      let d = c.args.self.now in
      subst (λ (rows : KeptRows). Makes k line 0 (made_by (Rule c.args.sign) k line) InData d (record d { rows = rows })) (sym c.keep_rule.ensures)
      (rule-kept k line d fits closed c.args.sign);
}
