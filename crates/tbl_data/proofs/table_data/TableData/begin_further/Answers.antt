use Rattle.std.proofs.Common.{◌≡◌, length, ap, sym, subst, ◌∙◌}
use Rattle.tbl_data.specs.LineTaken.{Makes, made_by}
use Rattle.tbl_data.specs.declared.phase.Phase.TheVariants.{InFormat}
use Rattle.tbl_data.proofs.LineSteps.{formats-follow}
use Rattle.tbl_format.specs.FormatRows.{KeptFormat}
use Rattle.tbl_format.specs.RowsServed.{all_rows}
use Rattle.tbl_layout.specs.declared.data_lines.LineKind.TheVariants.{Formats}
use Rattle.tbl_data.proofs.table_data.TableData.begin_further.Goals as goal

pub returns : goal.returns
returns c = record {
  made = λ k line fits closed.
      let d = c.args.self.now in
      let format = c.begin_further.ensures in
      let keys : c.earlier_rows-self.result ≡ length (all_rows d.format.format) = c.earlier_rows-self.ensures ∙ ap (λ (f : KeptFormat). length f.format.earlier) format in
      subst (λ (f : KeptFormat). Makes k line 0 (made_by Formats k line) InFormat d (record d { format = f; keys = c.earlier_rows-self.result; rules = 0 })) (sym format)
      (formats-follow k line d fits closed c.earlier_rows-self.result keys);
}
